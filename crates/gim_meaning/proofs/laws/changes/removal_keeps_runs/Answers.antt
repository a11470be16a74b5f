use Rattle.gim_meaning.proofs.RemovalRuns.{removal_keeps_runs, pruning_keeps_runs}
use Rattle.gim_meaning.proofs.laws.changes.removal_keeps_runs.Goals as goal

pub returns-clause-one : goal.returns-clause-one
returns-clause-one c = λ f x none. removal_keeps_runs x f none

pub returns-clause-all : goal.returns-clause-all
returns-clause-all c = pruning_keeps_runs
