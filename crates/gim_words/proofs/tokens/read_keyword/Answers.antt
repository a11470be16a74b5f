-- What the search leaves of the contract of `read_keyword`.
use Rattle.gim_words.proofs.TokensExact.{keyword_exact}
use Rattle.gim_words.proofs.tokens.read_keyword.Goals as goal

pub returns-in-empty-clause-exact : goal.returns-in-empty-clause-exact
returns-in-empty-clause-exact c = keyword_exact c.args.asked c.args.tokens.now

pub returns-in-len1-up-clause-exact : goal.returns-in-len1-up-clause-exact
returns-in-len1-up-clause-exact c = keyword_exact c.args.asked c.args.tokens.now
