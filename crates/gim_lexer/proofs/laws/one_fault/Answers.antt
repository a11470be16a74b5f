use Rattle.lexing.proofs.Cutting.{one_fault}
use Rattle.gim_lexer.proofs.laws.one_fault.Goals as goal

pub returns : goal.returns
returns c = one_fault
