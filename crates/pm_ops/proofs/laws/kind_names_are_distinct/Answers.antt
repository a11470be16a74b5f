use Rattle.pm_ops.proofs.KindLemmas.{kind_names_differ}
use Rattle.pm_ops.proofs.laws.kind_names_are_distinct.Goals as goal

pub returns : goal.returns
returns c = kind_names_differ
