use Rattle.gim_meaning.proofs.AllRunsKept.{all_kept_itself, all_through, keeps_defined}
use Rattle.gim_meaning.proofs.laws.all_runs.all_runs_are_kept_in_a_row.Goals as goal

pub returns-clause-itself : goal.returns-clause-itself
returns-clause-itself c = all_kept_itself

pub returns-clause-through : goal.returns-clause-through
returns-clause-through c = all_through

pub returns-clause-defined : goal.returns-clause-defined
returns-clause-defined c = keeps_defined
