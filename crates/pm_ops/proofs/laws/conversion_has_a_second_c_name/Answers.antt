use Rattle.pm_ops.proofs.NameLemmas.{second_c_name}
use Rattle.pm_ops.proofs.laws.conversion_has_a_second_c_name.Goals as goal

pub returns : goal.returns
returns c = second_c_name
