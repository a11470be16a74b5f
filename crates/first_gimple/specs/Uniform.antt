-- Functions of one kind: one block that returns, statements of two operands under one of six codes, and every type `unsigned int`.
use Rattle.std.specs.Prelude.{◌≡◌, Bool, true, false, ◌&&◌, IsTrue, List, [], ◌∷◌}
use Rattle.std.specs.List.{list_all}
use Rattle.pm_ops.specs.declared.code.Code.{Code}
use Rattle.pm_ops.specs.declared.code.Code.TheVariants.{Plus, Minus, Mult, BitAnd, BitIor, BitXor}
use Rattle.pm_wide.specs.Types.{same_type, unsigned_int_type}
use Rattle.pm_wide.specs.declared.operand.Operand.{Operand}
use Rattle.gim_ast.specs.declared.function.Function.{Function}
use Rattle.gim_ast.specs.declared.function.Block.{Block}
use Rattle.gim_ast.specs.declared.function.Stmt.{Stmt}
use Rattle.gim_ast.specs.declared.function.NameRow.{NameRow}
use Rattle.gim_ast.specs.declared.function.Rhs.{Rhs}
use Rattle.gim_ast.specs.declared.function.Rhs.TheVariants.{Copy, Op}
use Rattle.gim_ast.specs.declared.function.End.{End}
use Rattle.gim_ast.specs.declared.function.End.TheVariants.{Goto, If, Return}
use Rattle.gim_ast.specs.WellFormed.{type_of, is_empty}

abbrev pub is_first_code : Code → Bool
is_first_code Plus = true
is_first_code Minus = true
is_first_code Mult = true
is_first_code BitAnd = true
is_first_code BitIor = true
is_first_code BitXor = true
is_first_code _ = false

abbrev pub is_plain_operand : Operand → Bool
is_plain_operand a = same_type (type_of a) unsigned_int_type

abbrev pub is_plain_rhs : Rhs → Bool
is_plain_rhs (Op code (a ∷ b ∷ [])) = is_first_code code && is_plain_operand a && is_plain_operand b
is_plain_rhs (Op code _) = false
is_plain_rhs (Copy a) = false

abbrev pub is_plain_end : End → Bool
is_plain_end (Goto to) = false
is_plain_end (If code left right yes_to no_to) = false
is_plain_end (Return a) = is_plain_operand a

abbrev pub is_plain_block : Block → Bool
is_plain_block block = is_empty block.phis && list_all (λ (stmt : Stmt). is_plain_rhs stmt.rhs) block.stmts && is_plain_end block.end

abbrev pub is_one_plain_block : List Block → Bool
is_one_plain_block (block ∷ []) = is_plain_block block
is_one_plain_block _ = false

pub record IsUniform (f : Function) : Type 0 where
  pub result : f.result ≡ unsigned_int_type
  pub names : IsTrue (list_all (λ (row : NameRow). same_type row.ty unsigned_int_type) f.names)
  pub blocks : IsTrue (is_one_plain_block f.blocks)
