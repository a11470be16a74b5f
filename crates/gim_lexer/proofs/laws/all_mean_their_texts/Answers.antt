use Rattle.gim_lexer.proofs.NumberTexts.{tokens_mean}
use Rattle.gim_lexer.proofs.laws.all_mean_their_texts.Goals as goal

pub returns : goal.returns
returns c = tokens_mean
