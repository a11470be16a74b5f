use Rattle.gim_meaning.proofs.AllowedInsertions.{allowed_keeps_runs}
use Rattle.gim_meaning.proofs.laws.changes.insertion_keeps_runs.Goals as goal

pub returns : goal.returns
returns c = allowed_keeps_runs
