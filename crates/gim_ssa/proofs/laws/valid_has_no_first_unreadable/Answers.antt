use Rattle.gim_ast.proofs.FirstUnreadable.{valid_has_no_first}
use Rattle.gim_ssa.proofs.laws.valid_has_no_first_unreadable.Goals as goal

pub returns : goal.returns
returns c = valid_has_no_first
