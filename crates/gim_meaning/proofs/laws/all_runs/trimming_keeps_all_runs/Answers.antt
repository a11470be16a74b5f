use Rattle.gim_meaning.proofs.AllRunsKept.{trimming_keeps_all_runs}
use Rattle.gim_meaning.proofs.laws.all_runs.trimming_keeps_all_runs.Goals as goal

pub returns : goal.returns
returns c = trimming_keeps_all_runs
