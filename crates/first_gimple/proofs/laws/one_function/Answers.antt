use Rattle.first_gimple.proofs.Judging.{one_for_text}
use Rattle.first_gimple.proofs.laws.one_function.Goals as goal

pub returns : goal.returns
returns c = one_for_text
