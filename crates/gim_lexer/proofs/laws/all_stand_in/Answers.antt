use Rattle.gim_lexer.proofs.Cutting.{tokens_stand}
use Rattle.gim_lexer.proofs.laws.all_stand_in.Goals as goal

pub returns : goal.returns
returns c = tokens_stand
