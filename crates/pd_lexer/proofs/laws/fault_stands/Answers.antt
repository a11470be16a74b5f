use Rattle.pd_lexer.proofs.FirstFaults.{first_fault_stands}
use Rattle.pd_lexer.proofs.laws.fault_stands.Goals as goal

pub returns : goal.returns
returns c = first_fault_stands
