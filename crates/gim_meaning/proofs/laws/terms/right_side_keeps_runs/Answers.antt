use Rattle.gim_meaning.proofs.UnfoldedTerms.{refining_right_side_keeps_runs}
use Rattle.gim_meaning.proofs.laws.terms.right_side_keeps_runs.Goals as goal

pub returns : goal.returns
returns c = refining_right_side_keeps_runs
