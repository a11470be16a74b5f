use Rattle.gim_changes.proofs.ComesBefore.{before_is_readable}
use Rattle.gim_changes.proofs.laws.readability.what_comes_before_is_readable.Goals as goal

pub returns : goal.returns
returns c = λ f x y n left valid is before readable. before_is_readable f valid x y n left is before.readable readable
