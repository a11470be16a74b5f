use Rattle.pm_term.proofs.RefiningLaws.{itself, goes_on}
use Rattle.pm_term.proofs.laws.refining_is_an_order.Goals as goal

pub returns-clause-itself : goal.returns-clause-itself
returns-clause-itself c = itself

pub returns-clause-goes_on : goal.returns-clause-goes_on
returns-clause-goes_on c = goes_on
