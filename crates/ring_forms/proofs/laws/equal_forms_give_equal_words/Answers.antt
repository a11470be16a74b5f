use Rattle.ring_forms.proofs.RingLaw.{one_word}
use Rattle.ring_forms.proofs.SameAtoms.{equal_over_table}
use Rattle.ring_forms.proofs.laws.equal_forms_give_equal_words.Goals as goal

pub returns : goal.returns
returns c = λ words left right r s given wl wr one el er. one_word words given left right r s wl wr (equal_over_table left right wl wr one) el er
