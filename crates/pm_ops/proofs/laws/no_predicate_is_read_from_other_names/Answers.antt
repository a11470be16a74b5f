use Rattle.pm_ops.proofs.PredicateLemmas.{no_pred_exactly}
use Rattle.pm_ops.proofs.laws.no_predicate_is_read_from_other_names.Goals as goal

pub returns : goal.returns
returns c = no_pred_exactly
