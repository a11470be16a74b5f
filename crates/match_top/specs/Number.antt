-- `number G`: the functions of a GIMPLE file, the values of each numbered.
use Rattle.std.specs.Prelude.{◌≡◌, ℕ, List, ◌++◌, codes}
use Rattle.std.specs.List.{flat_map}
use Rattle.gim_ast.specs.declared.function.Function.{Function}
use Rattle.gim_printer.specs.Printing.{assigned_text}
use Rattle.match_top.specs.Refusals.{line}
use Rattle.value_numbers.specs.Merges as numbering

-- the name that went, and the one that stands for it
abbrev pub merge_line : Function → ℕ × ℕ → List ℕ
merge_line f merge = line (f.name ++ codes ": " ++ assigned_text f merge.0 ++ codes " = " ++ assigned_text f merge.1)

-- The values of the function are numbered, and it has a line for each merge. Names are printed as in the function that was
-- read, since a merge takes a name away and gives none another base.
pub record Numbers (f g : Function) (lines : List ℕ) : Type 0 where
  pub merges : List (ℕ × ℕ)
  pub numbered : numbering.Numbers f merges g
  pub told : lines ≡ flat_map (merge_line f) merges
