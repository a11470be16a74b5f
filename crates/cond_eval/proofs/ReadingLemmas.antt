-- Words of a smaller precision as words of 128 bits.
use Rattle.std.proofs.Common.{◌≡◌, ℕ, zero, suc, ◌+◌, ◌-◌, ◌/◌, ◌%◌, ◌^◌, ◌≤◌, ◌<◌, Bool, true, false, not, cond, ◌||◌, ◌⊎◌, inl, inr, min, refl, sym, ap, subst, ◌∙◌, arith}
use Rattle.std.specs.Prelude.{ℤ, pos, negsuc, neg_ℤ, ◌-ℤ◌, IsTrue, nat_lt, nat_eq}
use Rattle.std.proofs.lemmas.Int.{ints}
use Rattle.std.proofs.lemmas.Nat.{pow_pos}
use Rattle.std.proofs.Math.Pow.{pow_mono}
use Rattle.std.proofs.Math.Nat.{pow-suc, div-le_self, mod-eq_of_lt}
use borrow.Author.Tests.{ltb-true, ltb-false, eqb-true, eq-eqb, lt-ltb}
use Rattle.std.specs.Int.{int_div_euclid, int_signum}
use Rattle.pm_wide.specs.Residues.{residue}
use Rattle.pm_wide.specs.Types.{Ty, word_of, value_of, in_range, least, greatest}
use Rattle.pm_wide.specs.Congruence.{Congruent}
use Rattle.pm_wide.proofs.Words.{same_word, word-below, word-value, value-word, value_in_range, bounds, within}
use Rattle.pm_wide.proofs.Residues.{ones}
use Rattle.cond_eval.proofs.WordLemmas.{lower}
use Rattle.cond_eval.specs.Words.{numbers, read}

pub halves : (w : ℕ) → 0 < w → 2 ^ w ≡ 2 ^ (w - 1) + 2 ^ (w - 1)
halves (suc w) h = let e : suc w - 1 ≡ w = omega arith in rw e (omega (arith, pow-suc 2 w))
halves zero h = absurd (omega arith)

-- a word whose highest bit isn't set, and one whose highest bit is, with a sign
pub low : (p a : ℕ) → a < 2 ^ (p - 1) → read false p a ≡ pos a
low p a h = by (nat_lt a (2 ^ (p - 1))) refl
  where
    by : (t : Bool) → nat_lt a (2 ^ (p - 1)) ≡ t → cond t (pos a) (pos a -ℤ pos (2 ^ p)) ≡ pos a
    by true e = refl
    by false e = absurd (let k = ltb-false _ _ e in omega arith)

pub high : (p a : ℕ) → 2 ^ (p - 1) ≤ a → read false p a ≡ pos a -ℤ pos (2 ^ p)
high p a h = by (nat_lt a (2 ^ (p - 1))) refl
  where
    by : (t : Bool) → nat_lt a (2 ^ (p - 1)) ≡ t
        → cond t (pos a) (pos a -ℤ pos (2 ^ p)) ≡ pos a -ℤ pos (2 ^ p)
    by true e = absurd (let k = ltb-true _ _ e in omega arith)
    by false e = refl

-- ---- at 128 bits

pub kept : (p a : ℕ) → p ≤ 128 → a < 2 ^ (p - 1) → read false 128 a ≡ read false p a
kept p a h k =
    let less : p - 1 ≤ 127 = omega arith in
    let more : a < 2 ^ 127 = omega (arith, pow_mono less) in
    low 128 a more ∙ sym (low p a k)

pub filled : (p a : ℕ) → 0 < p → p ≤ 128 → a < 2 ^ p → 2 ^ (p - 1) ≤ a
    → read false 128 (a + (2 ^ 128 - 1 - (2 ^ 128 - 1) % 2 ^ p)) ≡ read false p a
filled p a some h k l =
    let all : (2 ^ 128 - 1) % 2 ^ p ≡ 2 ^ p - 1 = ones p (omega arith) in
    let room = pow_mono h in
    let few = pow_pos p in
    let up : a + (2 ^ 128 - 1 - (2 ^ 128 - 1) % 2 ^ p) ≡ a + (2 ^ 128 - 2 ^ p) =
    omega (arith, all) in
    let half = halves p some in
    let less : p - 1 ≤ 127 = omega arith in
    let above : 2 ^ 127 ≤ a + (2 ^ 128 - 2 ^ p) = omega (arith, half, pow_mono less) in
    ap (read false 128) up ∙ high 128 _ above ∙ omega (arith, ints, room) ∙ sym (high p a l)

-- ---- exact results

-- a number in the range of a precision is in that of 128 bits
wider : (u : Bool) (p : ℕ) (z : ℤ) → p ≤ 128 → IsTrue (in_range (numbers u p) z)
    → IsTrue (in_range (numbers u 128) z)
wider true p z h k =
    let b = bounds (numbers true p) z k in
    within (numbers true 128) z b.0 (omega (arith, ints, b.1, pow_mono h, pow_pos p))
wider false p z h k =
    let b = bounds (numbers false p) z k in
    let less : p - 1 ≤ 127 = omega arith in
    let most = pow_mono less in
    within (numbers false 128) z
    (omega (arith, ints, b.0, most))
    (omega (arith, ints, b.1, most, pow_pos (p - 1)))

-- out of the range of 128 bits, a number is out of that of a precision
pub outside_all : (u : Bool) (p : ℕ) (z : ℤ) → p ≤ 128 → not (in_range (numbers u 128) z) ≡ true
    → not (in_range (numbers u p) z) ≡ true
outside_all u p z h = by (in_range (numbers u p) z) (in_range (numbers u 128) z) (wider u p z h)
  where
    by : (small large : Bool) → (small ≡ true → large ≡ true) → not large ≡ true → not small ≡ true
    by true true w e = cc
    by true false w e = let f = w refl in cc
    by false large w e = refl

pub settled_word : (u : Bool) (p : ℕ) (z : ℤ) (n w : ℕ) → p ≤ 128 → w ≡ n % 2 ^ p
    → n ≡ word_of (numbers u 128) z → w ≡ word_of (numbers u p) z
settled_word u p z n w h k e = k ∙ ap (λ x. x % 2 ^ p) e ∙ lower p z h

pub in_all : (u : Bool) (z : ℤ) → not (in_range (numbers u 128) z) ≡ false
    → IsTrue (in_range (numbers u 128) z)
in_all u z e = by (in_range (numbers u 128) z) e
  where
    by : (b : Bool) → not b ≡ false → b ≡ true
    by true f = refl
    by false f = cc

-- in the range of 128 bits, a number is in that of a precision where its word there gives it back
module _ (u : Bool) (p e : ℕ) (z : ℤ) (some : 0 < p) (below : e < 2 ^ 128)
    (same : read u 128 e ≡ read u p (word_of (numbers u p) z)) where
  inside : IsTrue (in_range (numbers u p) z) → e ≡ word_of (numbers u 128) z
  inside h =
      sym (word-value (numbers u 128) e below)
      ∙ ap (word_of (numbers u 128)) (same ∙ value-word (numbers u p) z some h)

  outside : IsTrue (in_range (numbers u 128) z) → e ≡ word_of (numbers u 128) z
      → IsTrue (in_range (numbers u p) z)
  outside h is =
      let value : read u p (word_of (numbers u p) z) ≡ z =
      sym same ∙ ap (read u 128) is ∙ value-word (numbers u 128) z (omega arith) h in
      let inside = value_in_range (numbers u p) _ some (word-below (numbers u p) z) in
      subst (λ x. IsTrue (in_range (numbers u p) x)) value inside

  pub given_back : IsTrue (in_range (numbers u 128) z)
      → not (nat_eq e (word_of (numbers u 128) z)) ≡ not (in_range (numbers u p) z)
  given_back h =
      by _ (in_range (numbers u p) z) (λ k. outside h (eqb-true _ _ k)) (λ k. eq-eqb _ _ (inside k))
    where
      by : (a b : Bool) → (a ≡ true → b ≡ true) → (b ≡ true → a ≡ true) → not a ≡ not b
      by true true f g = refl
      by true false f g = let x = f refl in cc
      by false true f g = let x = g refl in cc
      by false false f g = refl

-- room for what is added
pub room : (p a : ℕ) → 0 < p → p ≤ 128 → a < 2 ^ (p - 1) → a + 2 ^ (p - 1) < 2 ^ 128
room p a some h k = omega (arith, halves p some, pow_mono h)

-- a word with its highest bit set, shifted down with its sign from above
pub shifted_high : (p a k : ℕ) → a < 2 ^ p → 2 ^ (p - 1) ≤ a
    → 2 ^ p - 1 - (2 ^ p - 1 - a) / 2 ^ k
    ≡ residue p (int_div_euclid (read false p a) (pos (2 ^ k)))
shifted_high p a k h l =
    let below = 2 ^ p - 1 - a in
    let is : read false p a ≡ negsuc below = high p a l ∙ omega (arith, ints) in
    let less = div-le_self below (2 ^ k) in
    let small : below / 2 ^ k % 2 ^ p ≡ below / 2 ^ k = mod-eq_of_lt (omega (arith, less)) in
    sym (ap (λ z. residue p (int_div_euclid z (pos (2 ^ k)))) is ∙ ap (λ n. 2 ^ p - 1 - n) small)

-- ---- the least and the greatest value of a type

module _ (t : Ty) (some : 0 < t.width) where
  pub least_unsigned : t.unsigned ≡ true → 0 ≡ residue t.width (least t)
  least_unsigned u = by t.unsigned u
    where
      by : (b : Bool) → b ≡ true
          → 0 ≡ residue t.width (cond b (pos 0) (neg_ℤ (pos (2 ^ (t.width - 1)))))
      by true e = sym (mod-eq_of_lt (pow_pos t.width))
      by false e = cc

  pub least_signed : t.unsigned ≡ false → 2 ^ (t.width - 1) ≡ residue t.width (least t)
  least_signed u = by t.unsigned u
    where
      half : 2 ^ (t.width - 1) < 2 ^ t.width
      half = omega (arith, halves t.width some, pow_pos (t.width - 1))

      one : Congruent t.width (pos (2 ^ (t.width - 1))) (neg_ℤ (pos (2 ^ (t.width - 1))))
      one = record { multiple = pos 1; differ = omega (arith, ints, halves t.width some) }

      by : (b : Bool) → b ≡ false
          → 2 ^ (t.width - 1) ≡ residue t.width (cond b (pos 0) (neg_ℤ (pos (2 ^ (t.width - 1)))))
      by true e = cc
      by false e =
          sym (mod-eq_of_lt half) ∙ same_word (numbers true t.width) (pos (2 ^ (t.width - 1))) _ one

  pub greatest_unsigned : t.width ≤ 128 → t.unsigned ≡ true
      → (2 ^ 128 - 1) % 2 ^ t.width ≡ residue t.width (greatest t)
  greatest_unsigned h u = by t.unsigned u
    where
      small : 2 ^ t.width - 1 < 2 ^ t.width
      small = omega (arith, pow_pos t.width)

      by : (b : Bool) → b ≡ true
          → (2 ^ 128 - 1) % 2 ^ t.width
          ≡ residue t.width (cond b (pos (2 ^ t.width - 1)) (pos (2 ^ (t.width - 1) - 1)))
      by true e = ones t.width (omega arith) ∙ sym (mod-eq_of_lt small)
      by false e = cc

  pub greatest_signed : t.unsigned ≡ false → 2 ^ (t.width - 1) - 1 ≡ residue t.width (greatest t)
  greatest_signed u = by t.unsigned u
    where
      small : 2 ^ (t.width - 1) - 1 < 2 ^ t.width
      small = omega (arith, halves t.width some, pow_pos (t.width - 1))

      by : (b : Bool) → b ≡ false
          → 2 ^ (t.width - 1) - 1
          ≡ residue t.width (cond b (pos (2 ^ t.width - 1)) (pos (2 ^ (t.width - 1) - 1)))
      by true e = cc
      by false e = sym (mod-eq_of_lt small)

-- ---- the sign of a word

pub sign_low : (t : Ty) (a : ℕ) → 0 < a → ((t.unsigned ≡ true) ⊎ (a < 2 ^ (t.width - 1)))
    → pos 1 ≡ int_signum (value_of t a)
sign_low t a some h = ap (λ n. pos n) (sym (min_one a some)) ∙ ap int_signum (sym (is h))
  where
    min_one : (n : ℕ) → 0 < n → min n 1 ≡ 1
    min_one n p = omega arith

    is : ((t.unsigned ≡ true) ⊎ (a < 2 ^ (t.width - 1))) → value_of t a ≡ pos a
    is (inl u) = by t.unsigned u
      where
        by : (b : Bool) → b ≡ true
            → cond (b || nat_lt a (2 ^ (t.width - 1))) (pos a) (pos a -ℤ pos (2 ^ t.width)) ≡ pos a
        by true e = refl
        by false e = cc
    is (inr l) = by t.unsigned (nat_lt a (2 ^ (t.width - 1))) (lt-ltb _ _ l)
      where
        by : (b c : Bool) → c ≡ true → cond (b || c) (pos a) (pos a -ℤ pos (2 ^ t.width)) ≡ pos a
        by true c e = refl
        by false true e = refl
        by false false e = cc

pub sign_high : (t : Ty) (a : ℕ) → t.unsigned ≡ false → 2 ^ (t.width - 1) ≤ a → a < 2 ^ t.width
    → negsuc 0 ≡ int_signum (value_of t a)
sign_high t a u l h = by t.unsigned u
  where
    by : (b : Bool) → b ≡ false
        → negsuc 0 ≡ int_signum (value_of (record { width = t.width; unsigned = b }) a)
    by true e = cc
    by false e =
        let is : read false t.width a ≡ negsuc (2 ^ t.width - 1 - a) =
        high t.width a l ∙ omega (arith, ints) in
        sym (ap int_signum is)
