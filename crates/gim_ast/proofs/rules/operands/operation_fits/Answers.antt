use Rattle.std.proofs.Common.{sym, arith}
use Rattle.gim_ast.proofs.OperandParts.{too_many}
use Rattle.gim_ast.proofs.rules.operands.operation_fits.Goals as goal

pub returns-in_default-2 : goal.returns-in_default-2
returns-in_default-2 c = sym (too_many c.args.code c.args.ty c.args.operands.now (omega (arith, c.in_default.len_at_least)))
