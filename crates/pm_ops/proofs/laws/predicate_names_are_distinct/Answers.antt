use Rattle.pm_ops.proofs.PredicateLemmas.{pred_names_differ}
use Rattle.pm_ops.proofs.laws.predicate_names_are_distinct.Goals as goal

pub returns : goal.returns
returns c = pred_names_differ
