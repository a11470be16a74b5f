use Rattle.gim_changes.proofs.AlwaysAssigned.{valid_is}
use Rattle.gim_changes.proofs.laws.readability.valid_where_uses_are_assigned.Goals as goal

pub returns : goal.returns
returns c = valid_is
