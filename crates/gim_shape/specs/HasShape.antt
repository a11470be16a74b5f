-- What holds of functions without a fault of shape.
use Rattle.std.specs.Prelude.{◌≡◌, ℕ, suc, IsTrue, IsSome, List, [], ◌∷◌, map, if◌then◌else◌}
use Rattle.std.specs.List.{AllByRecursion}
use Rattle.gim_ast.specs.WellFormed.{same_text}
use Rattle.pm_places.specs.declared.span.Span.{Span}
use Rattle.gim_text.specs.declared.tree.FunctionText.{FunctionText}
use Rattle.gim_text.specs.declared.tree.BlockText.{BlockText}
use Rattle.gim_text.specs.declared.tree.ArgText.{ArgText}
use Rattle.gim_text.specs.declared.tree.ItemText.{ItemText}
use Rattle.gim_text.specs.declared.tree.ItemText.TheVariants.{Phi, Stmt}
use Rattle.pm_places.specs.Spans.{text_of}
use Rattle.gim_shape.specs.Blocks.{is_among, number_of, named_at, jumps_of, numbers_of, predecessors}
use Rattle.gim_shape.specs.Phis.{named_by_args, has_args, args_fit}

-- how many times the text stands in a list
abbrev pub times : List ℕ → List (List ℕ) → ℕ
times text [] = 0
times text (t ∷ texts) = if same_text text t then suc (times text texts) else times text texts

-- there is an argument, and exactly one for the number of each block that jumps here; those stand at these places
pub record AreOneForEach (source : List ℕ) (from : List Span) (args : List ArgText) : Type 0 where
  pub some : IsTrue (has_args args)
  pub each : (number : List ℕ) → times number (named_by_args source args) ≡ (if is_among (map (text_of source) from) number then 1 else 0)
  -- the same as a test
  pub fit : IsTrue (args_fit source from args)

abbrev pub ItemFits : List ℕ → List Span → ItemText → Type 0
ItemFits source from (Phi name args) = AreOneForEach source from args
ItemFits source from (Stmt name right) = Unit {0}

abbrev pub HasNoPhi : List ItemText → Type 0
HasNoPhi [] = Unit {0}
HasNoPhi (Phi name args ∷ items) = ⊥
HasNoPhi (Stmt name right ∷ items) = HasNoPhi items

-- phis stand before statements
abbrev pub HasPhisFirst : List ItemText → Type 0
HasPhisFirst [] = Unit {0}
HasPhisFirst (Phi name args ∷ items) = HasPhisFirst items
HasPhisFirst (Stmt name right ∷ items) = HasNoPhi items

-- the jump leads to one of the blocks
abbrev pub Leads : List ℕ → List BlockText → Span → Type 0
Leads source blocks at = IsTrue (is_among (numbers_of source blocks) (named_at source at))

-- a block of these blocks has an end, its jumps lead to blocks, its phis stand first, and each has one argument for
-- each block that jumps here
pub record BlockHolds (source : List ℕ) (blocks : List BlockText) (block : BlockText) : Type 0 where
  pub end : IsSome block.end
  pub jumps : AllByRecursion (Leads source blocks) (jumps_of block)
  pub order : HasPhisFirst block.items
  pub phis : AllByRecursion (ItemFits source (predecessors source blocks (number_of source block))) block.items

-- there is an entry, and no phi in it
abbrev pub HasEntry : List BlockText → Type 0
HasEntry [] = ⊥
HasEntry (entry ∷ rest) = HasNoPhi entry.items

pub record HasShape (source : List ℕ) (function : FunctionText) : Type 0 where
  pub entry : HasEntry function.blocks
  pub blocks : AllByRecursion (BlockHolds source function.blocks) function.blocks
