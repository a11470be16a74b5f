use Rattle.gim_meaning.proofs.PossibleWords.{always_given_keeps_runs}
use Rattle.gim_meaning.proofs.laws.values.right_side_keeps_runs.Goals as goal

pub returns : goal.returns
returns c = always_given_keeps_runs
