-- What the search leaves of the contract of `sequences_are_exact`.
use Rattle.grammar.proofs.Sequence.{then}
use Rattle.grammar.proofs.laws.sequences_are_exact.Goals as goal

pub returns : goal.returns
returns g c = λ apart goes_on tokens first next exact second.
    then g.N.Nonterminal.spells g.M.Following.spells g.N.Nonterminal.goes_on g.M.Following.goes_on apart goes_on tokens first next exact second
