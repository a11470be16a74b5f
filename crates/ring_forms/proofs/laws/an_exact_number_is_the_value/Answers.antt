use Rattle.ring_forms.proofs.DifferenceLaw.{number_difference}
use Rattle.ring_forms.proofs.laws.an_exact_number_is_the_value.Goals as goal

pub returns : goal.returns
returns c = λ words ts rs z given wt is e. number_difference words given ts rs z wt is e
