use Rattle.gim_changes.proofs.AlwaysAssigned.{readable_is}
use Rattle.gim_changes.proofs.laws.readability.readable_where_assigned.Goals as goal

pub returns : goal.returns
returns c = λ f x n left valid. readable_is f valid x n left
