-- What the search leaves of the contract of `read_mark`.
use Rattle.gim_words.proofs.TokensExact.{mark_exact}
use Rattle.gim_words.proofs.tokens.read_mark.Goals as goal

pub returns-in-empty-clause-exact : goal.returns-in-empty-clause-exact
returns-in-empty-clause-exact c = mark_exact c.args.asked c.args.tokens.now

pub returns-in-len1-up-clause-exact : goal.returns-in-len1-up-clause-exact
returns-in-len1-up-clause-exact c = mark_exact c.args.asked c.args.tokens.now
