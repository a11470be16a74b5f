use Rattle.gim_meaning.proofs.PossibleWords.{always_decided_keeps_runs}
use Rattle.gim_meaning.proofs.laws.values.condition_keeps_runs.Goals as goal

pub returns : goal.returns
returns c = always_decided_keeps_runs
