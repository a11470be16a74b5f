use Rattle.pm_term.proofs.TermLaws.{values_are_words}
use Rattle.pm_term.proofs.laws.values_are_words.Goals as goal

pub returns : goal.returns
returns c = values_are_words
