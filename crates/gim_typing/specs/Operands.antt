-- What operands and right sides of a tree stand for, by the declarations of its function.
use Rattle.std.specs.Prelude.{[], ◌∷◌}
use Rattle.std.specs.Option.{unwrap_or}
use Rattle.pm_ops.specs.declared.code.Code.TheVariants.{Convert, Cond}
use Rattle.pm_wide.specs.Types.{Word, bool_type}
use Rattle.pm_wide.specs.declared.operand.Operand.{Operand}
use Rattle.pm_wide.specs.declared.operand.Operand.TheVariants as operands
use Rattle.gim_ast.specs.declared.function.Rhs.{Rhs}
use Rattle.gim_ast.specs.declared.function.Rhs.TheVariants as sides
use Rattle.gim_text.specs.declared.tree.OperandText.{OperandText}
use Rattle.gim_text.specs.declared.tree.OperandText.TheVariants.{Name, Default, Literal}
use Rattle.gim_text.specs.declared.tree.RightForm.{RightForm}
use Rattle.gim_text.specs.declared.tree.RightForm.TheVariants.{Copy, Unary, Cast, Binary, Choice}
use Rattle.gim_text.specs.Literals.{literal_word}
use Rattle.gim_typing.specs.Declarations.{Declarations, type_of_name, version_of_name}

-- the word of a constant that its type doesn't hold, which the rules on names don't let pass
abbrev pub no_word : Word
no_word = record { bits = 0; ty = bool_type }

-- a name with the type of its declaration, or a constant
abbrev pub operand_of : Declarations → OperandText → Operand
operand_of known (Name at) = operands.Name (version_of_name known.source at) (type_of_name known at)
operand_of known (Default at) = operands.Name (version_of_name known.source at) (type_of_name known at)
operand_of known (Literal literal) = operands.Const (unwrap_or (literal_word known.source literal) no_word)

-- a cast is a conversion to the type of the name that is assigned, and a choice the operation of three operands
abbrev pub rhs_of : Declarations → RightForm → Rhs
rhs_of known (Copy a) = sides.Copy (operand_of known a)
rhs_of known (Unary code a) = sides.Op code (operand_of known a ∷ [])
rhs_of known (Cast t a) = sides.Op Convert (operand_of known a ∷ [])
rhs_of known (Binary code a b) = sides.Op code (operand_of known a ∷ operand_of known b ∷ [])
rhs_of known (Choice a b c) = sides.Op Cond (operand_of known a ∷ operand_of known b ∷ operand_of known c ∷ [])
