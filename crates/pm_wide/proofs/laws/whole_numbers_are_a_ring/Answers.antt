use Rattle.pm_wide.proofs.Whole.{mul_comm, mul_assoc, mul-add, mul-sub, neg-mul, one-mul}
use Rattle.pm_wide.proofs.laws.whole_numbers_are_a_ring.Goals as goal

pub returns-clause-turned : goal.returns-clause-turned
returns-clause-turned c = mul_comm

pub returns-clause-grouped : goal.returns-clause-grouped
returns-clause-grouped c = mul_assoc

pub returns-clause-sums : goal.returns-clause-sums
returns-clause-sums c = mul-add

pub returns-clause-differences : goal.returns-clause-differences
returns-clause-differences c = mul-sub

pub returns-clause-negatives : goal.returns-clause-negatives
returns-clause-negatives c = neg-mul

pub returns-clause-one : goal.returns-clause-one
returns-clause-one c = one-mul
