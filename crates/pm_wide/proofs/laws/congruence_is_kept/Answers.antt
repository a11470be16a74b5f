use Rattle.pm_wide.proofs.Congruence.{same, turned, joined, sums, differences, products, negatives, fewer_places}
use Rattle.pm_wide.proofs.laws.congruence_is_kept.Goals as goal

pub returns-clause-same : goal.returns-clause-same
returns-clause-same c = same

pub returns-clause-turned : goal.returns-clause-turned
returns-clause-turned c = turned

pub returns-clause-joined : goal.returns-clause-joined
returns-clause-joined c = joined

pub returns-clause-sums : goal.returns-clause-sums
returns-clause-sums c = sums

pub returns-clause-differences : goal.returns-clause-differences
returns-clause-differences c = differences

pub returns-clause-products : goal.returns-clause-products
returns-clause-products c = products

pub returns-clause-negatives : goal.returns-clause-negatives
returns-clause-negatives c = negatives

pub returns-clause-fewer_places : goal.returns-clause-fewer_places
returns-clause-fewer_places c = fewer_places
