-- Paths through a function: the points that they lead to, and the names that they assign on the way.
use Rattle.std.specs.Prelude.{◌≡◌, ℕ, ◌==◌, IsTrue, Option, Some, None, List, [], ◌∷◌, map}
use Rattle.gim_ast.specs.declared.function.Function.{Function}
use Rattle.gim_ast.specs.declared.function.Block.{Block}
use Rattle.gim_ast.specs.Functions.{assigned_in, targets_of, first_where}
use Rattle.gim_ast.specs.WellFormed.{is_among}

-- what paths see of a block: its number, the names that it assigns in the order of the text, and where its end leads
pub record Stretch : Type 0 where
  pub number : ℕ
  pub assigns : List ℕ
  pub targets : List ℕ

abbrev pub stretch_of : Block → Stretch
stretch_of block = record { number = block.number; assigns = assigned_in block; targets = targets_of block.end }

-- what paths see of a function
abbrev pub flow_of : Function → List Stretch
flow_of f = map stretch_of f.blocks

-- where paths begin
abbrev pub entry_of : List Stretch → Option Stretch
entry_of [] = None
entry_of (stretch ∷ stretches) = Some stretch

-- the block of a number
abbrev pub stretch_at : List Stretch → ℕ → Option Stretch
stretch_at flow n = first_where (λ (stretch : Stretch). stretch.number == n) flow

-- A point is a block's number, with the names that are still to be assigned in that block. `Path flow n left past` says
-- that a path leads from the entry to the point of block n where `left` is still to be assigned, and that it assigned
-- the names of `past` on the way, the latest first. A path begins at the entry, passes the next item of a block, or
-- goes from the end of a block to a target
pub data Path (flow : List Stretch) : ℕ → List ℕ → List ℕ → Type 0 where
  enter : (entry : Stretch) → entry_of flow ≡ Some entry → Path flow entry.number entry.assigns []
  item : (n x : ℕ) (left past : List ℕ) → Path flow n (x ∷ left) past → Path flow n left (x ∷ past)
  jump : (from to : Stretch) (past : List ℕ) → stretch_at flow from.number ≡ Some from → IsTrue (is_among to.number from.targets) →
      stretch_at flow to.number ≡ Some to → Path flow from.number [] past → Path flow to.number to.assigns past
