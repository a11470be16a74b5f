use Rattle.pd_lexer.proofs.Cutting.{tokens_stand}
use Rattle.pd_lexer.proofs.laws.tokens_stand.Goals as goal

pub returns : goal.returns
returns c = tokens_stand
