-- Words and values: how a whole number, its word and the word's value hang together.
use Rattle.std.proofs.Common.{◌≡◌, ℕ, zero, suc, ◌+◌, ◌-◌, ◌*◌, ◌/◌, ◌%◌, ◌^◌, ◌≤◌, ◌<◌, Bool, true, false, cond, refl, sym, ap, subst, ◌∙◌, arith}
use Rattle.std.specs.Prelude.{ℤ, pos, negsuc, neg_ℤ, ◌+ℤ◌, ◌-ℤ◌, ◌*ℤ◌, ◌≤ℤ◌, ◌||◌, IsTrue, nat_lt}
use Rattle.std.specs.Int.{int_rem_euclid}
use Rattle.std.specs.Int.RustNames.{int_le, unsigned_abs}
use Rattle.std.proofs.lemmas.Int.{ints, int_rem_euclid_is}
use Rattle.std.proofs.lemmas.Bool.{and_parts, and_from}
use Rattle.std.proofs.lemmas.Nat.{pow_pos, div-add-mod'}
use Rattle.std.proofs.Math.Nat.{mod-lt, mod-eq_of_lt, mul-le-mul_left, pow-suc}
use Rattle.std.proofs.Math.Dec.{T}
use borrow.Author.Tests.{ltb-true, ltb-false}
use borrow.Author.Differences.{up, down}
use Rattle.pm_wide.specs.Congruence.{Congruent}
use Rattle.pm_wide.specs.Types.{Ty, value_of, word_of, in_range, least, greatest}
use Rattle.pm_wide.proofs.Congruence.{same, turned, joined}

-- ---- what is left modulo a power of two

pub rest_congruent : (m : ℕ) (z : ℤ) → Congruent m (int_rem_euclid z (pos (2 ^ m))) z
rest_congruent m (pos a) = turned m (pos a) (pos (a % 2 ^ m)) (record { multiple = pos (a / 2 ^ m); differ = omega (arith, ints, div-add-mod' a (2 ^ m)) })
rest_congruent m (negsuc a) =
    let small = mod-lt a (pow_pos m) in
    record { multiple = pos (a / 2 ^ m + 1); differ = omega (arith, ints, div-add-mod' a (2 ^ m)) }

pub same_rest : (m : ℕ) (a b : ℤ) → Congruent m a b → int_rem_euclid a (pos (2 ^ m)) ≡ int_rem_euclid b (pos (2 ^ m))
same_rest m a b h =
    let n = 2 ^ m in
    let e = h.differ in
    let j = down h.multiple in
    let k = up h.multiple in
    let t = down a + down b in
    let far : t * 1 ≤ t * n = mul-le-mul_left t (pow_pos m) in
    let top = up a + (j + t) * n - down a in
    int_rem_euclid_is a (pos n) n (j + t) top (pow_pos m) refl (omega (arith, ints)) ∙ sym (int_rem_euclid_is b (pos n) n (k + t) top (pow_pos m) refl (omega (arith, ints)))

pub rest_is : (m : ℕ) (z : ℤ) → pos (unsigned_abs (int_rem_euclid z (pos (2 ^ m)))) ≡ int_rem_euclid z (pos (2 ^ m))
rest_is m (pos a) = refl
rest_is m (negsuc a) = refl

rest_below : (m : ℕ) (z : ℤ) → unsigned_abs (int_rem_euclid z (pos (2 ^ m))) < 2 ^ m
rest_below m (pos a) = mod-lt a (pow_pos m)
rest_below m (negsuc a) = let some = pow_pos m in omega arith

-- ---- words

pub word-below : (t : Ty) (z : ℤ) → word_of t z < 2 ^ t.width
word-below t z = rest_below t.width z

pub word_congruent : (t : Ty) (z : ℤ) → Congruent t.width (pos (word_of t z)) z
word_congruent t z = subst (λ x. Congruent t.width x z) (sym (rest_is t.width z)) (rest_congruent t.width z)

-- whole numbers that are congruent have one word
pub same_word : (t : Ty) (a b : ℤ) → Congruent t.width a b → word_of t a ≡ word_of t b
same_word t a b h = ap unsigned_abs (same_rest t.width a b h)

-- and whole numbers with one word are congruent
pub one_class : (t : Ty) (a b : ℤ) → word_of t a ≡ word_of t b → Congruent t.width a b
one_class t a b e = joined t.width a (pos (word_of t a)) b (turned t.width _ _ (word_congruent t a)) (subst (λ n. Congruent t.width (pos n) b) (sym e) (word_congruent t b))

-- and the word of a word is that word
pub word-pos : (t : Ty) (n : ℕ) → word_of t (pos n) ≡ n % 2 ^ t.width
word-pos t n = refl

-- ---- values

pub value_congruent : (t : Ty) (n : ℕ) → Congruent t.width (value_of t n) (pos n)
value_congruent t n = by (t.unsigned || nat_lt n (2 ^ (t.width - 1)))
  where
    by : (low : Bool) → Congruent t.width (cond low (pos n) (pos n -ℤ pos (2 ^ t.width))) (pos n)
    by true = same t.width (pos n)
    by false = record { multiple = negsuc 0; differ = omega (arith, ints) }

-- the word of a word's value is the word
pub word-value : (t : Ty) (n : ℕ) → n < 2 ^ t.width → word_of t (value_of t n) ≡ n
word-value t n h = same_word t (value_of t n) (pos n) (value_congruent t n) ∙ mod-eq_of_lt h

-- a whole number and the value of its word are congruent
pub value-word_congruent : (t : Ty) (z : ℤ) → Congruent t.width (value_of t (word_of t z)) z
value-word_congruent t z = joined t.width _ (pos (word_of t z)) z (value_congruent t (word_of t z)) (word_congruent t z)

-- ---- ranges

halves : (w : ℕ) → 0 < w → 2 ^ w ≡ 2 ^ (w - 1) + 2 ^ (w - 1)
halves (suc w) h = let e : suc w - 1 ≡ w = omega arith in rw e (omega (arith, pow-suc 2 w))
halves zero h = absurd (omega arith)

pub bounds : (t : Ty) (z : ℤ) → IsTrue (in_range t z) → (least t ≤ℤ z) × (z ≤ℤ greatest t)
bounds t z h = let p = and_parts (int_le (least t) z) (int_le z (greatest t)) h in (omega (arith, ints, p.0), omega (arith, ints, p.1))

pub within : (t : Ty) (z : ℤ) → least t ≤ℤ z → z ≤ℤ greatest t → IsTrue (in_range t z)
within t z p q = and_from (int_le (least t) z) (int_le z (greatest t)) (by (int_le (least t) z) p.le) (by (int_le z (greatest t)) q.le)
  where
    by : (b : Bool) → T b → b ≡ true
    by true h = refl
    by false h = absurd h

-- a type has as many values as words
pub span : (t : Ty) → 0 < t.width → greatest t +ℤ pos 1 ≡ least t +ℤ pos (2 ^ t.width)
span t h = by t.unsigned
  where
    some : (k : ℕ) → 0 < 2 ^ k
    some k = pow_pos k

    by : (u : Bool) → cond u (pos (2 ^ t.width - 1)) (pos (2 ^ (t.width - 1) - 1)) +ℤ pos 1 ≡ cond u (pos 0) (neg_ℤ (pos (2 ^ (t.width - 1)))) +ℤ pos (2 ^ t.width)
    by true = omega (arith, ints, some t.width)
    by false = omega (arith, ints, some (t.width - 1), halves t.width h)

-- the value of a word is a value of its type
pub value_within : (t : Ty) (n : ℕ) → 0 < t.width → n < 2 ^ t.width → (least t ≤ℤ value_of t n) × (value_of t n ≤ℤ greatest t)
value_within t n w h = by t.unsigned
  where
    double : 2 ^ t.width ≡ 2 ^ (t.width - 1) + 2 ^ (t.width - 1)
    double = halves t.width w

    signed : (low : Bool) → nat_lt n (2 ^ (t.width - 1)) ≡ low → (neg_ℤ (pos (2 ^ (t.width - 1))) ≤ℤ cond low (pos n) (pos n -ℤ pos (2 ^ t.width))) × (cond low (pos n) (pos n -ℤ pos (2 ^ t.width)) ≤ℤ pos (2 ^ (t.width - 1) - 1))
    signed true e = let s = ltb-true _ _ e in (omega (arith, ints), omega (arith, ints))
    signed false e = let s = ltb-false _ _ e in (omega (arith, ints, double), omega (arith, ints, double))

    by : (u : Bool) → (cond u (pos 0) (neg_ℤ (pos (2 ^ (t.width - 1)))) ≤ℤ cond (u || nat_lt n (2 ^ (t.width - 1))) (pos n) (pos n -ℤ pos (2 ^ t.width)))
        × (cond (u || nat_lt n (2 ^ (t.width - 1))) (pos n) (pos n -ℤ pos (2 ^ t.width)) ≤ℤ cond u (pos (2 ^ t.width - 1)) (pos (2 ^ (t.width - 1) - 1)))
    by true = (omega (arith, ints), omega (arith, ints))
    by false = signed (nat_lt n (2 ^ (t.width - 1))) refl

pub value_in_range : (t : Ty) (n : ℕ) → 0 < t.width → n < 2 ^ t.width → IsTrue (in_range t (value_of t n))
value_in_range t n w h = let p = value_within t n w h in within t _ p.0 p.1

-- two values of one type that are congruent are one
pub one_value : (t : Ty) (a b : ℤ) → 0 < t.width → IsTrue (in_range t a) → IsTrue (in_range t b) → Congruent t.width a b → a ≡ b
one_value t a b w p q h = by h.multiple h.differ
  where
    f : (least t ≤ℤ a) × (a ≤ℤ greatest t)
    f = bounds t a p

    g : (least t ≤ℤ b) × (b ≤ℤ greatest t)
    g = bounds t b q

    far : (k : ℕ) → 2 ^ t.width ≤ suc k * 2 ^ t.width
    far k = omega arith

    by : (k : ℤ) → a ≡ b +ℤ k *ℤ pos (2 ^ t.width) → a ≡ b
    by (pos zero) e = omega (arith, ints, e)
    by (pos (suc k)) e = absurd (omega (arith, ints, e, f.0, f.1, g.0, g.1, span t w, far k))
    by (negsuc k) e = absurd (omega (arith, ints, e, f.0, f.1, g.0, g.1, span t w, far k))

-- the value of the word of a value of the type is that value
pub value-word : (t : Ty) (z : ℤ) → 0 < t.width → IsTrue (in_range t z) → value_of t (word_of t z) ≡ z
value-word t z w h = one_value t _ z w (value_in_range t (word_of t z) w (word-below t z)) h (value-word_congruent t z)
