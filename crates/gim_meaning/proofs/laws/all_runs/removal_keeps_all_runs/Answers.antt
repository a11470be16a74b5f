use Rattle.gim_meaning.proofs.AllRunsKept.{removal_keeps_all_runs}
use Rattle.gim_meaning.proofs.laws.all_runs.removal_keeps_all_runs.Goals as goal

pub returns : goal.returns
returns c = λ f x none never. removal_keeps_all_runs x f none never
