use Rattle.std.proofs.Common.{sym, arith}
use Rattle.pm_term.proofs.TreeLemmas.{too_many}
use Rattle.pm_term.proofs.typed.are_operands.Goals as goal

pub returns-in_default-2 : goal.returns-in_default-2
returns-in_default-2 c = sym (too_many c.args.code c.args.ty c.args.args.now (omega (arith, c.in_default.len_at_least)))
