use Rattle.gim_meaning.proofs.UnfoldedTerms.{words_are_of_names, unfolded_value, right_value}
use Rattle.gim_meaning.proofs.laws.terms.terms_have_the_values_that_they_stand_for.Goals as goal

pub returns-clause-typed : goal.returns-clause-typed
returns-clause-typed c = words_are_of_names

pub returns-clause-operand : goal.returns-clause-operand
returns-clause-operand c = λ f n left env a term valid possible may unfolds. unfolded_value f valid
    n left env possible a term unfolds may

pub returns-clause-right : goal.returns-clause-right
returns-clause-right c = λ f n left env t rhs term valid possible may unfolds. right_value f valid n
    left env possible t rhs term unfolds may
