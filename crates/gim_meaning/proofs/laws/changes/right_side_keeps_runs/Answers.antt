use Rattle.gim_meaning.proofs.NewRightSides.{right_side_keeps_runs}
use Rattle.gim_meaning.proofs.laws.changes.right_side_keeps_runs.Goals as goal

pub returns : goal.returns
returns c = right_side_keeps_runs
