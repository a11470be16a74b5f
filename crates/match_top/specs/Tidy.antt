-- `tidy G`: the functions of a GIMPLE file, the control flow of each tidied.
use Rattle.std.specs.Prelude.{◌≡◌, ℕ, List, ◌++◌, codes, decimal}
use Rattle.std.specs.List.{flat_map}
use Rattle.cfg_tidy.specs.declared.change.Change.{Change}
use Rattle.cfg_tidy.specs.declared.change.Change.TheVariants.{Branch, Dropped, Phi}
use Rattle.cfg_tidy.specs.Tidying.{IsTidied}
use Rattle.gim_ast.specs.declared.function.Function.{Function}
use Rattle.gim_printer.specs.Printing.{assigned_text}
use Rattle.match_top.specs.Refusals.{line}

abbrev pub block_text : ℕ → List ℕ
block_text n = codes "__BB" ++ decimal n

-- what was done: an `if` became a jump, a block went, a phi went
abbrev pub change_text : Function → Change → List ℕ
change_text f (Branch n) = codes "branch " ++ block_text n
change_text f (Dropped n) = codes "dropped " ++ block_text n
change_text f (Phi x) = codes "phi " ++ assigned_text f x

abbrev pub change_line : Function → Change → List ℕ
change_line f change = line (f.name ++ codes ": " ++ change_text f change)

-- The function is tidied, and has a line for each change. A name is printed as in the function that was read, since a change
-- takes names away and gives none another base.
pub record Tidies (f g : Function) (lines : List ℕ) : Type 0 where
  pub changes : List Change
  pub tidied : IsTidied f changes g
  pub told : lines ≡ flat_map (change_line f) changes
