use Rattle.pm_wide.proofs.Values.{quotient_is, remainder_is}
use Rattle.pm_wide.proofs.laws.exact_quotients.Goals as goal

pub returns-clause-quotient : goal.returns-clause-quotient
returns-clause-quotient c = quotient_is

pub returns-clause-remainder : goal.returns-clause-remainder
returns-clause-remainder c = remainder_is
