use Rattle.std.proofs.Common.{refl}
use Rattle.pm_term.specs.Trees.{type_of}
use Rattle.ring_forms.proofs.RingDifferenceLaw.{well_typed_type, one_pair}
use Rattle.ring_forms.proofs.laws.equal_ring_differences_are_congruent.Goals as goal

pub returns : goal.returns
returns c = λ words a b p q x y z w given wa wb wp wq eb ep eq one fa fb fp fq. one_pair words given (type_of a) (well_typed_type a wa) a b wa wb refl eb x y fa fb p q wp wq ep eq z w fp fq one
