use Rattle.pd_lexer.proofs.FirstFaults.{outcome}
use Rattle.pd_lexer.proofs.laws.an_outcome.Goals as goal

pub returns : goal.returns
returns c = outcome
