use Rattle.gim_meaning.proofs.PossibleWords.{words_are_possible}
use Rattle.gim_meaning.proofs.laws.points.readable_names_have_their_values.Goals as goal

pub returns : goal.returns
returns c = words_are_possible
