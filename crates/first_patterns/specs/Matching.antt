-- Which row applies first at a right side, and what it gives.
use Rattle.std.specs.Prelude.{ℕ, suc, not, ◌||◌, if◌then◌else◌, Option, Some, None, List, [], ◌∷◌}
use Rattle.pm_ops.specs.Codes.{same_code}
use Rattle.pm_wide.specs.declared.operand.Operand.{Operand}
use Rattle.gim_ast.specs.declared.function.Rhs.{Rhs}
use Rattle.gim_ast.specs.declared.function.Rhs.TheVariants.{Copy, Op}
use Rattle.gim_ast.specs.Functions.{same_operand}
use Rattle.first_patterns.specs.Subjects.{Subject, View}
use Rattle.first_patterns.specs.declared.row.Row.{Row}
use Rattle.first_patterns.specs.declared.row.Side.{Side}
use Rattle.first_patterns.specs.declared.row.Side.TheVariants.{Left, Right}

abbrev pub side_of : Side → Operand → Operand → Operand
side_of Left a b = a
side_of Right a b = b

-- the row's result at two operands under a code: there where the code is the row's, and the operands are one where the captures are
abbrev pub result_on : Row → List Operand → Option Operand
result_on row (a ∷ b ∷ []) = if not row.same || same_operand a b then Some (side_of row.result a b) else None
result_on row _ = None

abbrev pub result_of : Row → Rhs → Option Operand
result_of row (Copy a) = None
result_of row (Op code operands) = if same_code row.code code then result_on row operands else None

-- the first row that applies among those that follow row number n, with its number and its result
abbrev pub found_from : ℕ → List Row → Rhs → Option (ℕ × Operand)
found_from n [] rhs = None
found_from n (row ∷ rows) rhs = found_or (result_of row rhs) (found_from (suc n) rows rhs) where
  found_or : Option Operand → Option (ℕ × Operand) → Option (ℕ × Operand)
  found_or (Some a) other = Some (suc n, a)
  found_or None other = other

-- rows are numbered from 1
abbrev pub row_at : List Row → View → Subject → Option (ℕ × Operand)
row_at rows view s = found_from 0 rows s.rhs
