use Rattle.pm_ops.proofs.NameLemmas.{code_names_differ}
use Rattle.pm_ops.proofs.laws.code_names_are_distinct.Goals as goal

pub returns : goal.returns
returns c = code_names_differ
