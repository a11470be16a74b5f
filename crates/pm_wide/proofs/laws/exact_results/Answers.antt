use Rattle.pm_wide.proofs.Values.{exact_congruent, exact_signed, exact_within}
use Rattle.pm_wide.proofs.laws.exact_results.Goals as goal

pub returns-clause-congruent : goal.returns-clause-congruent
returns-clause-congruent c = exact_congruent

pub returns-clause-equal : goal.returns-clause-equal
returns-clause-equal c = exact_signed

pub returns-clause-defined : goal.returns-clause-defined
returns-clause-defined c = exact_within
