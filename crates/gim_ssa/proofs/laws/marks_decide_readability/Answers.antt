use Rattle.gim_ssa.proofs.MarksLemmas.{marks_decide}
use Rattle.gim_ssa.proofs.laws.marks_decide_readability.Goals as goal

pub returns : goal.returns
returns c = marks_decide
