use Rattle.pm_ops.proofs.CodeLemmas.{swapped_twice}
use Rattle.pm_ops.proofs.laws.swapped_twice_is_the_same.Goals as goal

pub returns : goal.returns
returns c = swapped_twice
