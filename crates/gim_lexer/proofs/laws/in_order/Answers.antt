use Rattle.gim_lexer.proofs.Cutting.{tokens_in_order}
use Rattle.gim_lexer.proofs.laws.in_order.Goals as goal

pub returns : goal.returns
returns c = tokens_in_order
