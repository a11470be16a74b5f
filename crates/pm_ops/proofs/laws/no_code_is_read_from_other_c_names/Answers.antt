use Rattle.pm_ops.proofs.NameLemmas.{no_c_code_exactly}
use Rattle.pm_ops.proofs.laws.no_code_is_read_from_other_c_names.Goals as goal

pub returns : goal.returns
returns c = no_c_code_exactly
