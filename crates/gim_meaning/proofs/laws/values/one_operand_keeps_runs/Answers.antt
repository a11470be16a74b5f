use Rattle.gim_meaning.proofs.PhisOfOneOperand.{one_operand_keeps_runs}
use Rattle.gim_meaning.proofs.laws.values.one_operand_keeps_runs.Goals as goal

pub returns : goal.returns
returns c = λ f block front phi rest by valid found split reads comes. one_operand_keeps_runs f
    valid block found front phi rest split by reads comes
