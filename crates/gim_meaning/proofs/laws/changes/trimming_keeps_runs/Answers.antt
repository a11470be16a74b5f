use Rattle.gim_meaning.proofs.TrimmingRuns.{trimming_keeps_runs, tidying_keeps_runs}
use Rattle.gim_meaning.proofs.laws.changes.trimming_keeps_runs.Goals as goal

pub returns-clause-rows : goal.returns-clause-rows
returns-clause-rows c = trimming_keeps_runs

pub returns-clause-all : goal.returns-clause-all
returns-clause-all c = tidying_keeps_runs
