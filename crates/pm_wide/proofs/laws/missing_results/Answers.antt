use Rattle.pm_wide.proofs.Partial.{negative_is, size_is, divides_is}
use Rattle.pm_wide.proofs.laws.missing_results.Goals as goal

pub returns-clause-negative : goal.returns-clause-negative
returns-clause-negative c = λ t x k. negative_is t k x

pub returns-clause-size : goal.returns-clause-size
returns-clause-size c = λ t x k. size_is t k x

pub returns-clause-quotient : goal.returns-clause-quotient
returns-clause-quotient c = divides_is
