-- What the search leaves of the contract of `read_type`.
use Rattle.gim_words.proofs.TypesExact.{type_exact}
use Rattle.gim_words.proofs.types.read_type.Goals as goal

pub returns-in-Some-clause-exact : goal.returns-in-Some-clause-exact
returns-in-Some-clause-exact c = type_exact c.args.tokens.now

pub returns-in-None-clause-exact : goal.returns-in-None-clause-exact
returns-in-None-clause-exact c = type_exact c.args.tokens.now
