-- An operand put for a name in every use, in phis, statements and ends alike; and another right side or condition.
use Rattle.std.specs.Prelude.{ℕ, ◌==◌, map, if◌then◌else◌}
use Rattle.pm_ops.specs.declared.code.Code.{Code}
use Rattle.pm_wide.specs.declared.operand.Operand.{Operand}
use Rattle.gim_ast.specs.declared.function.Function.{Function}
use Rattle.gim_ast.specs.declared.function.Block.{Block}
use Rattle.gim_ast.specs.declared.function.Phi.{Phi}
use Rattle.gim_ast.specs.declared.function.Stmt.{Stmt}
use Rattle.gim_ast.specs.declared.function.Rhs.{Rhs}
use Rattle.gim_ast.specs.declared.function.Rhs.TheVariants.{Copy, Op}
use Rattle.gim_ast.specs.declared.function.End.{End}
use Rattle.gim_ast.specs.declared.function.End.TheVariants.{Goto, If, Return}
use Rattle.gim_ast.specs.Functions.{is_name}

-- `by` where the operand is the name x, and else the operand
abbrev pub put : ℕ → Operand → Operand → Operand
put x by a = if is_name x a then by else a

abbrev pub put_in_rhs : ℕ → Operand → Rhs → Rhs
put_in_rhs x by (Copy a) = Copy (put x by a)
put_in_rhs x by (Op code operands) = Op code (map (put x by) operands)

abbrev pub put_in_end : ℕ → Operand → End → End
put_in_end x by (Goto to) = Goto to
put_in_end x by (If code left right yes_to no_to) = If code (put x by left) (put x by right) yes_to no_to
put_in_end x by (Return a) = Return (put x by a)

abbrev pub put_in_arg : ℕ → Operand → ℕ × Operand → ℕ × Operand
put_in_arg x by arg = (arg.0, put x by arg.1)

abbrev pub put_in_phi : ℕ → Operand → Phi → Phi
put_in_phi x by phi = record phi { args = map (put_in_arg x by) phi.args }

abbrev pub put_in_stmt : ℕ → Operand → Stmt → Stmt
put_in_stmt x by stmt = record stmt { rhs = put_in_rhs x by stmt.rhs }

abbrev pub put_in_block : ℕ → Operand → Block → Block
put_in_block x by block = record block {
  phis = map (put_in_phi x by) block.phis;
  stmts = map (put_in_stmt x by) block.stmts;
  end = put_in_end x by block.end;
}

unfoldable pub put_in_all : ℕ → Operand → Function → Function
put_in_all x by f = record f { blocks = map (put_in_block x by) f.blocks }

-- another right side for each statement of the name
abbrev pub with_rhs_in_stmt : ℕ → Rhs → Stmt → Stmt
with_rhs_in_stmt x rhs stmt = if stmt.name == x then record stmt { rhs = rhs } else stmt

abbrev pub with_rhs_in_block : ℕ → Rhs → Block → Block
with_rhs_in_block x rhs block = record block { stmts = map (with_rhs_in_stmt x rhs) block.stmts }

unfoldable pub with_rhs : ℕ → Rhs → Function → Function
with_rhs x rhs f = record f { blocks = map (with_rhs_in_block x rhs) f.blocks }

-- another condition at the end of each block of the number
abbrev pub with_condition_in_end : Code → Operand → Operand → End → End
with_condition_in_end code a b (If old left right yes_to no_to) = If code a b yes_to no_to
with_condition_in_end code a b end = end

abbrev pub with_condition_in_block : ℕ → Code → Operand → Operand → Block → Block
with_condition_in_block n code a b block =
    if block.number == n then record block { end = with_condition_in_end code a b block.end } else block

unfoldable pub with_condition : ℕ → Code → Operand → Operand → Function → Function
with_condition n code a b f = record f { blocks = map (with_condition_in_block n code a b) f.blocks }
