use Rattle.pd_lexer.proofs.LongestMatch.{longest_match}
use Rattle.pd_lexer.proofs.laws.longest.Goals as goal

pub returns : goal.returns
returns c = longest_match
