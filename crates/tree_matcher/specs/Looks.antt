-- How many tests a scan asks for: in each row up to the first that fails, and the places of its captures
-- where all hold.
use Rattle.std.specs.Prelude.{ℕ, suc, ◌+◌, Bool, if◌then◌else◌, Option, Some, None, is_some, List, [], ◌∷◌}
use Rattle.std.specs.List.{list_all}
use Rattle.pm_ops.specs.Names.{Name}
use Rattle.pm_wide.specs.declared.operand.Operand.{Operand}
use Rattle.pattern_rows.specs.declared.row.Place.{Place}
use Rattle.pattern_rows.specs.declared.row.ProbeAt.{ProbeAt}
use Rattle.pattern_rows.specs.declared.row.TestRow.{TestRow}
use Rattle.pattern_rows.specs.declared.caps.Caps.{Caps}
use Rattle.pattern_rows.specs.Found.{found}

-- tests, up to the first that fails
abbrev pub tried : (ProbeAt → Bool) → List ProbeAt → ℕ
tried holds [] = 0
tried holds (test ∷ tests) = suc (if holds test then tried holds tests else 0)

-- places, up to the first without an operand
abbrev pub asked : (Place → Option Operand) → List (Name × Place) → ℕ
asked operand_at [] = 0
asked operand_at (hole ∷ holes) = suc (if is_some (operand_at hole.1) then asked operand_at holes else 0)

-- of a row
abbrev pub looks : (ProbeAt → Bool) → (Place → Option Operand) → TestRow → ℕ
looks holds operand_at row = tried holds row.tests + (if list_all holds row.tests then asked operand_at row.holes else 0)

-- no more where a row holds
abbrev pub unless_found : Option Caps → ℕ → ℕ
unless_found None more = more
unless_found (Some caps) more = 0

-- of rows, up to the first that holds
abbrev pub looks_in : (ProbeAt → Bool) → (Place → Option Operand) → List TestRow → ℕ
looks_in holds operand_at [] = 0
looks_in holds operand_at (row ∷ rows) = looks holds operand_at row + unless_found (found holds operand_at row) (looks_in holds operand_at rows)
