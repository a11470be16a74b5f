use Rattle.std.proofs.Common.{ap}
use Rattle.pm_wide.specs.Types.{Word}
use Rattle.pm_wide.proofs.Words.{same_word, one_class, value-word_congruent, one_value}
use Rattle.pm_wide.proofs.Values.{width_positive}
use Rattle.pm_wide.proofs.laws.words_are_congruence_classes.Goals as goal

pub returns-clause-one_word : goal.returns-clause-one_word
returns-clause-one_word c = λ t a b h. ap (λ n. let w : Word = record { bits = n; ty = t } in w) (same_word t a b h)

pub returns-clause-congruent : goal.returns-clause-congruent
returns-clause-congruent c = value-word_congruent

pub returns-clause-one_value : goal.returns-clause-one_value
returns-clause-one_value c = λ t a b k. one_value t a b (width_positive t k)

pub returns-clause-one_class : goal.returns-clause-one_class
returns-clause-one_class c = λ t a b e. one_class t a b (ap (λ (w : Word). w.bits) e)
