use Rattle.ring_forms.proofs.DifferenceLaw.{one_difference}
use Rattle.ring_forms.proofs.laws.equal_exact_differences_have_one_value.Goals as goal

pub returns : goal.returns
returns c = λ words ts us rs ss given wt wu one et eu. one_difference words given ts us rs ss wt wu one et eu
