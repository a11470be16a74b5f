use Rattle.ring_forms.proofs.PolynomialLaw.{value_of_terms}
use Rattle.ring_forms.proofs.laws.the_exact_form_has_the_value.Goals as goal

pub returns : goal.returns
returns c = λ words t terms r given typed has form e. value_of_terms words given t typed has r e terms form
