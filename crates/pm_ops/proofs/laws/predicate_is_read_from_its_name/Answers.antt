use Rattle.pm_ops.proofs.PredicateLemmas.{pred_read_exactly}
use Rattle.pm_ops.proofs.laws.predicate_is_read_from_its_name.Goals as goal

pub returns : goal.returns
returns c = pred_read_exactly
