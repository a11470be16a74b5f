use Rattle.gim_meaning.proofs.SumsAndDifferences.{difference_keeps_runs}
use Rattle.gim_meaning.proofs.laws.uses.differences_of_sums_may_go.Goals as goal

pub returns : goal.returns
returns c = difference_keeps_runs
