use Rattle.pm_ops.proofs.CodeLemmas.{swapped_keeps_arity, swapped_keeps_comparison, swapped_keeps_commutative}
use Rattle.pm_ops.proofs.laws.swapped_keeps_the_class.Goals as goal

pub returns-clause-arity : goal.returns-clause-arity
returns-clause-arity c = swapped_keeps_arity

pub returns-clause-comparison : goal.returns-clause-comparison
returns-clause-comparison c = swapped_keeps_comparison

pub returns-clause-commutative : goal.returns-clause-commutative
returns-clause-commutative c = swapped_keeps_commutative
