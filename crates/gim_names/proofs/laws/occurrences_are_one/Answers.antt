use Rattle.gim_names.proofs.OccurrencesAreOne.{are_one}
use Rattle.gim_names.proofs.laws.occurrences_are_one.Goals as goal

pub returns : goal.returns
returns c = are_one
