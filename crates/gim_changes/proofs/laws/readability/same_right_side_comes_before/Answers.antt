use Rattle.gim_changes.proofs.ComesBefore.{same_right_side_comes_before}
use Rattle.gim_changes.proofs.laws.readability.same_right_side_comes_before.Goals as goal

pub returns : goal.returns
returns c = λ f x y valid same other stands readable. same_right_side_comes_before f valid x y same other stands readable
