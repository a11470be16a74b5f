use Rattle.gim_changes.proofs.ValidRightSide.{valid_with_rhs}
use Rattle.gim_changes.proofs.laws.validity.right_side_keeps_validity.Goals as goal

pub returns : goal.returns
returns c = λ f x rhs valid fits holds before bounds. valid_with_rhs x rhs f valid fits holds before bounds
