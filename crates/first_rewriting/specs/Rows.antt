-- That a row is the first of a list that applies at a right side; and the row of a version.
use Rattle.std.specs.Prelude.{◌≡◌, ℕ, suc, ◌<◌, Some, None, List, slice_get, ◌==◌, Bool}
use Rattle.pm_wide.specs.declared.operand.Operand.{Operand}
use Rattle.gim_ast.specs.declared.function.Rhs.{Rhs}
use Rattle.gim_ast.specs.declared.function.NameRow.{NameRow}
use Rattle.first_patterns.specs.declared.row.Row.{Row}
use Rattle.first_patterns.specs.Matching.{result_of}

-- row number n, from 1, applies and gives that operand, and no row before it applies
pub record AppliesFirst (rows : List Row) (rhs : Rhs) (n : ℕ) (operand : Operand) : Type 0 where
  pub place : ℕ
  pub row : Row
  pub number : n ≡ suc place
  pub there : slice_get rows place ≡ Some row
  pub applies : result_of row rhs ≡ Some operand
  pub earlier : (k : ℕ) (other : Row) → k < place → slice_get rows k ≡ Some other → result_of other rhs ≡ None

-- the row of `names` of the version
abbrev pub row_is : ℕ → NameRow → Bool
row_is x row = row.version == x
