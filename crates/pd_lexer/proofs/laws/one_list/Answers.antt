use Rattle.pd_lexer.proofs.Cutting.{same_tokens}
use Rattle.pd_lexer.proofs.laws.one_list.Goals as goal

pub returns : goal.returns
returns c = same_tokens
