use Rattle.gim_changes.proofs.Copies.{copy_can_go}
use Rattle.gim_changes.proofs.laws.validity.copies_can_go.Goals as goal

pub returns : goal.returns
returns c = copy_can_go
