use Rattle.gim_meaning.proofs.SubstitutionRuns.{substitution_keeps_runs}
use Rattle.gim_meaning.proofs.laws.changes.substitution_keeps_runs.Goals as goal

pub returns : goal.returns
returns c = λ f x by well alike. substitution_keeps_runs f well x by alike
