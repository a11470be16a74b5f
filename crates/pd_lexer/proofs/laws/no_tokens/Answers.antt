use Rattle.pd_lexer.proofs.Cutting.{no_tokens}
use Rattle.pd_lexer.proofs.laws.no_tokens.Goals as goal

pub returns : goal.returns
returns c = no_tokens
