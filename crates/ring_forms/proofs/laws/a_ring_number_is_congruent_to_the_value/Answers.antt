use Rattle.std.proofs.Common.{refl}
use Rattle.pm_term.specs.Trees.{type_of}
use Rattle.ring_forms.proofs.RingDifferenceLaw.{well_typed_type, number_pair}
use Rattle.ring_forms.proofs.laws.a_ring_number_is_congruent_to_the_value.Goals as goal

pub returns : goal.returns
returns c = λ words a b x y n given wa wb eb is fa fb. number_pair words given (type_of a) (well_typed_type a wa) a b wa wb refl eb x y fa fb n is
