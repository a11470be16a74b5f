use Rattle.gim_limits.proofs.LimitsKept.{limits_kept}
use Rattle.gim_limits.proofs.laws.limits_are_kept.Goals as goal

pub returns : goal.returns
returns c = limits_kept
