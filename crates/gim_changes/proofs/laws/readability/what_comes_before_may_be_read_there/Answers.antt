use Rattle.gim_changes.proofs.GoodOperands.{readable_operand}
use Rattle.gim_changes.proofs.laws.readability.what_comes_before_may_be_read_there.Goals as goal

pub returns : goal.returns
returns c = λ f x n left a comes. readable_operand f x a comes n left
