-- Which functions are read back from their printed text.
use Rattle.std.specs.Prelude.{ℕ, ◌≤◌, nat_lt, IsTrue, List, map, length}
use Rattle.std.specs.List.{list_all, AllByRecursion}
use Rattle.gim_ast.specs.declared.function.Function.{Function}
use Rattle.gim_ast.specs.declared.function.NameRow.{NameRow}
use Rattle.gim_printer.specs.Printing.{text}
use Rattle.gim_ast.specs.WellFormed.{IsWellFormed, same_text, all_distinct, numbers_of}
use Rattle.gim_text.specs.declared.limits.TheConstants.{BLOCK_LIMIT, NAME_LIMIT, NUMBER_LIMIT}
use Rattle.gim_reader.specs.declared.TheConstants.{FILE_LIMIT}

-- the limits of a function that is read
pub record IsWithinLimits (f : Function) : Type 0 where
  pub blocks : length f.blocks ≤ BLOCK_LIMIT
  pub names : length f.names ≤ NAME_LIMIT
  pub versions : IsTrue (list_all (λ version. nat_lt version NUMBER_LIMIT) (map (λ (row : NameRow). row.version) f.names))
  pub numbers : IsTrue (list_all (λ number. nat_lt number NUMBER_LIMIT) (numbers_of f))

abbrev pub function_names : List Function → List (List ℕ)
function_names fs = map (λ (f : Function). f.name) fs

-- well-formed functions of distinct names within the limits, whose text is a file within its limit
pub record MayBeReadBack (fs : List Function) : Type 0 where
  pub well_formed : AllByRecursion IsWellFormed fs
  pub within : AllByRecursion IsWithinLimits fs
  pub distinct : IsTrue (all_distinct same_text (function_names fs))
  pub short : length (text fs) ≤ FILE_LIMIT
