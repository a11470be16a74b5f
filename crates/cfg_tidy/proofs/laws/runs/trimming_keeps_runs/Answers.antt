use Rattle.cfg_tidy.proofs.TrimmedRuns.{trimming_runs_alike}
use Rattle.cfg_tidy.proofs.laws.runs.trimming_keeps_runs.Goals as goal

pub returns : goal.returns
returns c = trimming_runs_alike
