use Rattle.pm_wide.proofs.Results.{operation_word}
use Rattle.pm_wide.proofs.laws.values_are_words.Goals as goal

pub returns : goal.returns
returns c = λ code t args r k p h e. let w = operation_word code t args r h e in (w.0, w.1 (k, p))
