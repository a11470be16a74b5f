use Rattle.gim_changes.proofs.ValidWithout.{valid_without}
use Rattle.gim_changes.proofs.laws.validity.removal_keeps_validity.Goals as goal

pub returns : goal.returns
returns c = λ f x valid unused. valid_without x f valid unused
