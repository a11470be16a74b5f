use Rattle.gim_meaning.proofs.UnfoldedTerms.{refining_condition_keeps_runs}
use Rattle.gim_meaning.proofs.laws.terms.condition_keeps_runs.Goals as goal

pub returns : goal.returns
returns c = refining_condition_keeps_runs
