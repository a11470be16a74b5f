-- What the search leaves of the contract of `exact_answers_read`.
use Rattle.grammar.proofs.WholeInput.{whole}
use Rattle.grammar.proofs.laws.exact_answers_read.Goals as goal

pub returns : goal.returns
returns g c = λ kind tokens answer exact. whole g.N.Nonterminal.spells g.N.Nonterminal.goes_on kind tokens answer exact
