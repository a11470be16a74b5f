-- Operands of operations.
use Rattle.pm_wide.specs.declared.operand.Operand.{Operand}
use Rattle.pm_wide.specs.declared.operand.Operand.TheVariants.{Name, Const}
use Rattle.pm_wide.specs.Types.{Ty}

-- the type of an operand's values
abbrev pub type_of_operand : Operand → Ty
type_of_operand (Name version ty) = ty
type_of_operand (Const word) = word.ty
