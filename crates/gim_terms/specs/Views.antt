-- What matching sees of a function: never the function itself.
use Rattle.std.specs.Prelude.{ℕ, Option, Some, None, List}
use Rattle.std.specs.Option.{option_and_then, option_map}
use Rattle.pm_ops.specs.declared.code.Code.{Code}
use Rattle.pm_wide.specs.Types.{Ty}
use Rattle.pm_wide.specs.declared.operand.Operand.{Operand}
use Rattle.pm_wide.specs.declared.operand.Operand.TheVariants.{Name, Const}
use Rattle.gim_ast.specs.declared.function.Function.{Function}
use Rattle.gim_ast.specs.declared.function.NameRow.{NameRow}
use Rattle.gim_ast.specs.declared.function.Rhs.{Rhs}
use Rattle.gim_ast.specs.declared.function.Rhs.TheVariants.{Copy, Op}
use Rattle.gim_ast.specs.Functions.{right_of, uses_of, row_of}

-- the right side of a statement's name, in how many operand places a name stands, and its type
pub record View : Type 0 where
  pub stmt : ℕ → Option Rhs
  pub uses : ℕ → ℕ
  pub ty : ℕ → Option Ty

abbrev pub view_of : Function → View
view_of f = record { stmt = right_of f; uses = uses_of f; ty = λ x. option_map (λ (row : NameRow). row.ty) (row_of f x) }

-- a code on operands
pub record Operation : Type 0 where
  pub code : Code
  pub operands : List Operand

abbrev pub operation : Code → List Operand → Operation
operation code operands = record { code = code; operands = operands }

-- the operation of a right side: a copy has none
abbrev pub operation_of_rhs : Rhs → Option Operation
operation_of_rhs (Copy a) = None
operation_of_rhs (Op code operands) = Some (operation code operands)

-- the operation that a statement assigns to an operand: a copy and a phi aren't looked through
abbrev pub operation_behind : View → Operand → Option Operation
operation_behind view (Name x t) = option_and_then operation_of_rhs (view.stmt x)
operation_behind view (Const w) = None
