-- What arithmetic on 128 bits leaves of a whole number at a smaller precision.
use Rattle.std.proofs.Common.{◌≡◌, ℕ, ◌+◌, ◌-◌, ◌*◌, ◌%◌, ◌^◌, ◌≤◌, ◌<◌, Bool, true, sym, ap, subst, ◌∙◌, arith}
use Rattle.std.specs.Prelude.{ℤ, pos, negsuc, neg_ℤ, ◌-ℤ◌, ◌*ℤ◌, ◌<ℤ◌}
use Rattle.std.specs.Int.RustNames.{unsigned_abs}
use Rattle.std.proofs.lemmas.Int.{ints}
use Rattle.std.proofs.lemmas.Nat.{pow_pos}
use Rattle.std.proofs.Math.Nat.{mod-eq_of_lt}
use Rattle.pm_wide.specs.Residues.{residue}
use Rattle.pm_wide.specs.Congruence.{Congruent}
use Rattle.pm_wide.specs.Types.{Ty, word_of}
use Rattle.pm_wide.proofs.Congruence.{fewer_places, turned}
use Rattle.pm_wide.proofs.Words.{same_word, value_congruent}
use Rattle.pm_wide.proofs.Residues as residues
use Rattle.pm_wide.proofs.Residues.{residue_congruent}
use Rattle.pm_wide.proofs.Wrapping as wrapping
use Rattle.cond_eval.specs.Words.{numbers, read}

pub below_zero : (z : ℤ) → z <ℤ pos 0 → unsigned_abs z < 2 ^ 64
    → (0 + (2 ^ 128 - unsigned_abs z)) % 2 ^ 128 ≡ residue 128 z
below_zero (negsuc k) h small =
    let less : k % 2 ^ 128 ≡ k = mod-eq_of_lt (omega arith) in
    mod-eq_of_lt (omega arith) ∙ omega (arith, less)
below_zero (pos n) h small = absurd (omega (arith, ints, h))

pub from_zero : (z : ℤ) → (z <ℤ pos 0 → ⊥) → unsigned_abs z < 2 ^ 64
    → unsigned_abs z ≡ residue 128 z
from_zero (pos n) h small = sym (mod-eq_of_lt (omega arith))
from_zero (negsuc k) h small = absurd (h (omega (arith, ints)))

pub lower : (p : ℕ) (z : ℤ) → p ≤ 128 → residue 128 z % 2 ^ p ≡ residue p z
lower p z h =
    same_word (numbers true p) _ z (fewer_places p 128 _ _ h (residue_congruent 128 z))

pub negated : (p a : ℕ) → p ≤ 128 → a < 2 ^ 128
    → (0 + (2 ^ 128 - a)) % 2 ^ 128 % 2 ^ p ≡ residue p (neg_ℤ (pos a))
negated p a h k =
    let same : pos 0 -ℤ pos a ≡ neg_ℤ (pos a) = omega (arith, ints) in
    residues.negated p a (omega arith) k ∙ ap (residue p) same

pub shifted_up : (p a k : ℕ) → p ≤ 128
    → (a * 2 ^ k) % 2 ^ 128 % 2 ^ p ≡ residue p (pos a *ℤ pos (2 ^ k))
shifted_up p a k h = wrapping.shifted_up (numbers true p) a k h

pub all_ones : (t : Ty) → t.width ≤ 128 → (2 ^ 128 - 1) % 2 ^ t.width ≡ word_of t (negsuc 0)
all_ones t h =
    let none : 0 % 2 ^ t.width ≡ 0 = mod-eq_of_lt (pow_pos t.width) in
    residues.ones t.width (omega arith) ∙ omega (arith, none)

pub lower_word : (t : Ty) (z : ℤ) → t.width ≤ 128 → residue 128 z % 2 ^ t.width ≡ word_of t z
lower_word t z h = lower t.width z h

-- a word of 128 bits that stands for what a word of a smaller precision does, in a type
pub lower_read : (t : Ty) (u : Bool) (p e a : ℕ) → t.width ≤ 128 → read u 128 e ≡ read u p a
    → e % 2 ^ t.width ≡ word_of t (read u p a)
lower_read t u p e a h same =
    let wide = turned 128 _ _ (value_congruent (numbers u 128) e) in
    let here = subst (λ z. Congruent 128 (pos e) z) same wide in
    same_word t (pos e) (read u p a) (fewer_places t.width 128 _ _ h here)
