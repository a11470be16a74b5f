-- The tests by which names are looked up.
use Rattle.std.specs.Prelude.{ℕ, ◌==◌, Bool, List, Option, None}
use Rattle.pm_wide.specs.declared.operand.Operand.{Operand}
use Rattle.pm_wide.specs.declared.operand.Operand.TheVariants.{Name, Const}
use Rattle.gim_ast.specs.declared.function.Block.{Block}
use Rattle.gim_ast.specs.declared.function.NameRow.{NameRow}
use Rattle.gim_ast.specs.declared.function.Stmt.{Stmt}
use Rattle.gim_ast.specs.declared.function.Rhs.{Rhs}
use Rattle.gim_terms.specs.Views.{View}

abbrev pub assigns : ℕ → Stmt → Bool
assigns x stmt = stmt.name == x

abbrev pub is_row_of : ℕ → NameRow → Bool
is_row_of x row = row.version == x

abbrev pub stmts_in : Block → List Stmt
stmts_in block = block.stmts

-- the right side of the statement that assigns an operand
abbrev pub rhs_behind : View → Operand → Option Rhs
rhs_behind view (Name x t) = view.stmt x
rhs_behind view (Const w) = None
