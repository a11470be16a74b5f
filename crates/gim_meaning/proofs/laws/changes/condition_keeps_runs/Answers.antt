use Rattle.gim_meaning.proofs.NewRightSides.{condition_keeps_runs}
use Rattle.gim_meaning.proofs.laws.changes.condition_keeps_runs.Goals as goal

pub returns : goal.returns
returns c = condition_keeps_runs
