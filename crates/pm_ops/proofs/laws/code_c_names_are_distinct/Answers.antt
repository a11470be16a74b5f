use Rattle.pm_ops.proofs.NameLemmas.{code_c_names_differ}
use Rattle.pm_ops.proofs.laws.code_c_names_are_distinct.Goals as goal

pub returns : goal.returns
returns c = code_c_names_differ
