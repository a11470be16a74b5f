use Rattle.pm_ops.proofs.NameLemmas.{code_c_read_exactly}
use Rattle.pm_ops.proofs.laws.code_is_read_from_its_c_names.Goals as goal

pub returns : goal.returns
returns c = code_c_read_exactly
