use Rattle.gim_changes.proofs.PhiArguments.{reached_apart}
use Rattle.gim_changes.proofs.laws.readability.what_is_reached_is_apart.Goals as goal

pub returns : goal.returns
returns c = λ f x y n left past valid path readable supports. reached_apart f valid x y n left past path readable supports
