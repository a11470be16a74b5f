use Rattle.cfg_tidy.proofs.BranchRuns.{branch_runs_alike}
use Rattle.cfg_tidy.proofs.laws.runs.branch_keeps_runs.Goals as goal

pub returns : goal.returns
returns c = λ f block to plain found known. branch_runs_alike f block to found known plain
