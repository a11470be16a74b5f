use Rattle.pm_wide.proofs.Values.{shifted_congruent, floor_is}
use Rattle.pm_wide.proofs.laws.shifts_are_powers.Goals as goal

pub returns-clause-left : goal.returns-clause-left
returns-clause-left c = shifted_congruent

pub returns-clause-right : goal.returns-clause-right
returns-clause-right c = floor_is
