use Rattle.pm_ops.proofs.NameLemmas.{no_code_exactly}
use Rattle.pm_ops.proofs.laws.no_code_is_read_from_other_names.Goals as goal

pub returns : goal.returns
returns c = no_code_exactly
