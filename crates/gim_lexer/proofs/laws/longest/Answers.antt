use Rattle.gim_lexer.proofs.LongestMatch.{longest_match}
use Rattle.gim_lexer.proofs.laws.longest.Goals as goal

pub returns : goal.returns
returns c = longest_match
