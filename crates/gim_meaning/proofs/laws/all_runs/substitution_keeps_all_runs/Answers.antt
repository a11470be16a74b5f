use Rattle.gim_meaning.proofs.AllRunsKept.{substitution_keeps_all_runs, always_read_alike_keeps_all_runs}
use Rattle.gim_meaning.proofs.laws.all_runs.substitution_keeps_all_runs.Goals as goal

pub returns-clause-reached : goal.returns-clause-reached
returns-clause-reached c = λ f x by well alike. substitution_keeps_all_runs f well x by alike

pub returns-clause-always : goal.returns-clause-always
returns-clause-always c = always_read_alike_keeps_all_runs
