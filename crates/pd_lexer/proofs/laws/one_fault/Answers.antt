use Rattle.pd_lexer.proofs.FirstFaults.{same_fault}
use Rattle.pd_lexer.proofs.laws.one_fault.Goals as goal

pub returns : goal.returns
returns c = same_fault
