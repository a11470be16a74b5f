use Rattle.gim_changes.proofs.Unused.{none_left}
use Rattle.gim_changes.proofs.laws.nothing_unused_is_left.Goals as goal

pub returns : goal.returns
returns c = none_left
