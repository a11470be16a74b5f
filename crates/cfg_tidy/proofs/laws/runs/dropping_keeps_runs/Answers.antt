use Rattle.cfg_tidy.proofs.DroppedRuns.{dropping_runs_alike}
use Rattle.cfg_tidy.proofs.laws.runs.dropping_keeps_runs.Goals as goal

pub returns : goal.returns
returns c = λ f n plain unreached. dropping_runs_alike f n unreached plain
