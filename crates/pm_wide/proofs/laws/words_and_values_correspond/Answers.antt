use Rattle.std.proofs.Common.{ap}
use Rattle.pm_wide.specs.Types.{Word}
use Rattle.pm_wide.proofs.Words.{word-value, value-word, value_in_range}
use Rattle.pm_wide.proofs.Values.{width_positive}
use Rattle.pm_wide.proofs.laws.words_and_values_correspond.Goals as goal

pub returns-clause-word : goal.returns-clause-word
returns-clause-word c = λ w k. ap (λ n. let x : Word = record { bits = n; ty = w.ty } in x) (word-value w.ty w.bits k.0)

pub returns-clause-value : goal.returns-clause-value
returns-clause-value c = λ t z k. value-word t z (width_positive t k)

pub returns-clause-in_range : goal.returns-clause-in_range
returns-clause-in_range c = λ w k. value_in_range w.ty w.bits (width_positive w.ty k.1) k.0
