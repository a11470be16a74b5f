use Rattle.gim_changes.proofs.ValidSubstitution.{valid_with_put}
use Rattle.gim_changes.proofs.laws.validity.substitution_keeps_validity.Goals as goal

pub returns : goal.returns
returns c = λ f x by valid assigned holds type before. valid_with_put x by f valid assigned holds type before
