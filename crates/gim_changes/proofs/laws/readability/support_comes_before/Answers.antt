use Rattle.gim_changes.proofs.ComesBefore.{support_comes_before}
use Rattle.gim_changes.proofs.laws.readability.support_comes_before.Goals as goal

pub returns : goal.returns
returns c = λ f x y valid supports. support_comes_before f valid x y supports
