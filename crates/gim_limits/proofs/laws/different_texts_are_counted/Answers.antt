use Rattle.gim_limits.proofs.ChosenTexts.{chosen_are_few}
use Rattle.gim_limits.proofs.laws.different_texts_are_counted.Goals as goal

pub returns : goal.returns
returns c = chosen_are_few
