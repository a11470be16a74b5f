use Rattle.match_top.proofs.KeptLemmas.{all_kept}
use Rattle.match_top.proofs.laws.passes_keep_runs.Goals as goal

pub returns-clause-valid : goal.returns-clause-valid
returns-clause-valid c = λ pass fs gs report valid become. (all_kept pass fs gs report valid become).0

pub returns-clause-runs : goal.returns-clause-runs
returns-clause-runs c = λ pass fs gs report valid become. (all_kept pass fs gs report valid become).1
