use Rattle.gim_ast.proofs.FirstUnreadable.{first_is_one}
use Rattle.gim_ssa.proofs.laws.first_unreadable_is_one.Goals as goal

pub returns : goal.returns
returns c = first_is_one
