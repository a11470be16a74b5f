use Rattle.pm_ops.proofs.NameLemmas.{code_c_named-code_c_name}
use Rattle.pm_ops.proofs.laws.code_is_read_from_its_first_c_name.Goals as goal

pub returns : goal.returns
returns c = code_c_named-code_c_name
