use Rattle.gim_changes.proofs.ComesBefore.{readable_at_the_point}
use Rattle.gim_changes.proofs.laws.readability.a_name_is_assigned_at_one_point.Goals as goal

pub returns : goal.returns
returns c = λ f x y place home front left valid at is readable n rest. readable_at_the_point f valid x y place home front left at is readable n rest
