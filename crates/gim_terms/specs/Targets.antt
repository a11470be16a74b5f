-- Targets: what a row is matched on. A statement, the condition of an `if` and an inner operation of
-- a result each are one.
use Rattle.std.specs.Prelude.{ℕ, Option, Some, None, List, [], ◌∷◌, slice_get}
use Rattle.std.specs.Option.{option_and_then, option_map}
use Rattle.pm_ops.specs.declared.code.Code.{Code}
use Rattle.pm_wide.specs.Types.{Ty, bool_type}
use Rattle.pm_wide.specs.declared.operand.Operand.{Operand}
use Rattle.gim_ast.specs.declared.function.Function.{Function}
use Rattle.gim_ast.specs.declared.function.Block.{Block}
use Rattle.gim_ast.specs.declared.function.Stmt.{Stmt}
use Rattle.gim_ast.specs.declared.function.NameRow.{NameRow}
use Rattle.gim_ast.specs.declared.function.End.{End}
use Rattle.gim_ast.specs.declared.function.End.TheVariants.{Goto, If, Return}
use Rattle.gim_ast.specs.Functions.{row_of}
use Rattle.gim_terms.specs.Views.{Operation, operation, operation_of_rhs}

-- a type, and an operation of that type
pub record Target : Type 0 where
  pub ty : Ty
  pub on : Operation

abbrev pub target : Ty → Code → List Operand → Target
target ty code operands = record { ty = ty; on = operation code operands }

-- of a right side of a type; none of a copy
abbrev pub with_type : Option Ty → Option Operation → Option Target
with_type None _ = None
with_type (Some ty) None = None
with_type (Some ty) (Some on) = Some (record { ty = ty; on = on })

-- the type of a name
abbrev pub type_of_name : Function → ℕ → Option Ty
type_of_name f x = option_map (λ (row : NameRow). row.ty) (row_of f x)

abbrev pub target_of_stmt : Function → Stmt → Option Target
target_of_stmt f stmt = with_type (type_of_name f stmt.name) (operation_of_rhs stmt.rhs)

-- the statement at a place of a block, both from 0
abbrev pub stmt_at : Function → ℕ → ℕ → Option Stmt
stmt_at f block stmt = option_and_then (λ (home : Block). slice_get home.stmts stmt) (slice_get f.blocks block)

abbrev pub operation_at_stmt : Function → ℕ → ℕ → Option Operation
operation_at_stmt f block stmt = option_and_then (λ (item : Stmt). operation_of_rhs item.rhs) (stmt_at f block stmt)

abbrev pub target_at_stmt : Function → ℕ → ℕ → Option Target
target_at_stmt f block stmt = option_and_then (target_of_stmt f) (stmt_at f block stmt)

-- of the condition of a block: `left code right` of type _Bool
abbrev pub target_of_end : End → Option Target
target_of_end (Goto to) = None
target_of_end (If code left right yes_to no_to) = Some (target bool_type code (left ∷ right ∷ []))
target_of_end (Return a) = None

abbrev pub target_at_if : Function → ℕ → Option Target
target_at_if f block = option_and_then (λ (home : Block). target_of_end home.end) (slice_get f.blocks block)
