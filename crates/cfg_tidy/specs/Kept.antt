-- What is left of a function without the blocks that jumps don't reach from the entry.
use Rattle.std.specs.Prelude.{◌≡◌, ℕ, Bool, not, List, map, filter}
use Rattle.std.specs.List.{AllByRecursion}
use Rattle.pm_wide.specs.declared.operand.Operand.{Operand}
use Rattle.gim_ast.specs.declared.function.Function.{Function}
use Rattle.gim_ast.specs.declared.function.Block.{Block}
use Rattle.gim_ast.specs.declared.function.Phi.{Phi}
use Rattle.gim_ast.specs.WellFormed.{is_among}
use Rattle.gim_changes.specs.Trimming.{trimmed}
use Rattle.cfg_tidy.specs.Reached.{IsReached}
use Rattle.cfg_tidy.specs.Tidying.{AllReached}

-- the phi with its arguments for blocks whose numbers pass
abbrev pub only_from : (ℕ → Bool) → Phi → Phi
only_from passes phi = record phi { args = filter (λ (arg : ℕ × Operand). passes arg.0) phi.args }

abbrev pub only_args : (ℕ → Bool) → Block → Block
only_args passes block = record block { phis = map (only_from passes) block.phis }

-- the blocks whose numbers pass, with the phi arguments for them
abbrev pub only_blocks : (ℕ → Bool) → List Block → List Block
only_blocks passes blocks = map (only_args passes) (filter (λ (block : Block). passes block.number) blocks)

-- it isn't among the numbers
abbrev pub is_apart : List ℕ → ℕ → Bool
is_apart numbers n = not (is_among n numbers)

-- Without some blocks that nothing reaches, and the phi arguments for them, all blocks that are left are reached. `names` has
-- the rows of what still stands
pub record IsReachedPart (f part : Function) : Type 0 where
  pub gone : List ℕ
  pub unreached : AllByRecursion (λ (n : ℕ). IsReached f.blocks n → ⊥) gone
  pub reached : AllReached f.blocks (only_blocks (is_apart gone) f.blocks)
  pub is : part ≡ trimmed (record f { blocks = only_blocks (is_apart gone) f.blocks })
