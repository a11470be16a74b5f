use Rattle.gim_changes.proofs.ValidWithout.{tidied_valid}
use Rattle.gim_changes.proofs.laws.validity.tidying_keeps_validity.Goals as goal

pub returns : goal.returns
returns c = tidied_valid
