use Rattle.value_numbers.proofs.OneAnswer.{one_answer}
use Rattle.value_numbers.proofs.laws.merges_are_determined.Goals as goal

pub returns : goal.returns
returns c = λ f g h merges others first second. one_answer f merges others g h first second
