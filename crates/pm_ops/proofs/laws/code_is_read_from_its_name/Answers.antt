use Rattle.pm_ops.proofs.NameLemmas.{code_read_exactly}
use Rattle.pm_ops.proofs.laws.code_is_read_from_its_name.Goals as goal

pub returns : goal.returns
returns c = code_read_exactly
