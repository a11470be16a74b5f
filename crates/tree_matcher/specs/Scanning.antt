-- The least row that holds, above a number.
use Rattle.std.specs.Prelude.{◌≡◌, ℕ, suc, ◌<◌, nat_lt, Bool, Option, Some, None, List, [], ◌∷◌, length, drop, slice_get}
use Rattle.pm_wide.specs.declared.operand.Operand.{Operand}
use Rattle.pattern_rows.specs.declared.row.Place.{Place}
use Rattle.pattern_rows.specs.declared.row.ProbeAt.{ProbeAt}
use Rattle.pattern_rows.specs.declared.row.TestRow.{TestRow}
use Rattle.pattern_rows.specs.declared.caps.Caps.{Caps}
use Rattle.pattern_rows.specs.Found.{found}

-- a row has at most 32 captures
abbrev pub fits_caps : TestRow → Bool
fits_caps row = nat_lt (length row.holes) 33

abbrev pub found_or : ℕ → Option Caps → Option (ℕ × Caps) → Option (ℕ × Caps)
found_or number None other = other
found_or number (Some caps) other = Some (number, caps)

-- the first row that holds among those behind a number, with its number and its captures
abbrev pub first_found : (ProbeAt → Bool) → (Place → Option Operand) → ℕ → List TestRow → Option (ℕ × Caps)
first_found holds operand_at number [] = None
first_found holds operand_at number (row ∷ rows) = found_or (suc number) (found holds operand_at row) (first_found holds operand_at (suc number) rows)

-- how many rows stand up to the number after which the search begins
abbrev pub passed_by : Option ℕ → ℕ
passed_by None = 0
passed_by (Some number) = number

-- the least row above a number; rows are numbered from 1
abbrev pub scanned : (ProbeAt → Bool) → (Place → Option Operand) → List TestRow → Option ℕ → Option (ℕ × Caps)
scanned holds operand_at rows after = first_found holds operand_at (passed_by after) (drop (passed_by after) rows)

-- row `number` holds with these captures, and no row does between `after` and it
pub record IsLeast (holds : ProbeAt → Bool) (operand_at : Place → Option Operand) (rows : List TestRow) (after number : ℕ) (caps : Caps) : Type 0 where
  pub place : ℕ
  pub row : TestRow
  pub number_is : number ≡ suc place
  pub above : after < number
  pub there : slice_get rows place ≡ Some row
  pub match_is : found holds operand_at row ≡ Some caps
  pub least : (k : ℕ) (other : TestRow) → after < suc k → k < place → slice_get rows k ≡ Some other → found holds operand_at other ≡ None
