-- What arithmetic on 128 bits leaves of exact results.
use Rattle.std.proofs.Common.{◌≡◌, ℕ, ◌+◌, ◌-◌, ◌*◌, ◌%◌, ◌^◌, ◌≤◌, ◌<◌, Bool, true, false, cond, refl, sym, ap, ◌∙◌, arith}
use Rattle.std.specs.Prelude.{ℤ, pos, neg_ℤ, ◌+ℤ◌, ◌-ℤ◌, ◌*ℤ◌, ◌≤ℤ◌, IsTrue}
use Rattle.std.specs.Int.RustNames.{unsigned_abs}
use Rattle.std.proofs.lemmas.Int.{ints}
use Rattle.std.specs.Prelude.{bit_and, bit_or, bit_xor}
use Rattle.std.proofs.lemmas.Nat.{pow_pos, pow-add, mod_low, and_le_l, or_lt, xor_lt}
use Rattle.std.proofs.Math.Nat.{mod-eq_of_lt}
use Rattle.std.proofs.Math.Pow.{pow_mono}
use Rattle.pm_wide.specs.Congruence.{Congruent}
use Rattle.pm_wide.specs.Types.{Ty, value_of, word_of, in_range}
use Rattle.pm_wide.proofs.Congruence.{joined, turned, sums, differences, products, times, fewer}
use Rattle.pm_wide.proofs.Words.{rest_congruent, same_word, value_congruent, bounds}

-- what 128 bits leave of n, reduced, is the word of every z that is congruent to n
pub word_of_low : (t : Ty) (n : ℕ) (z : ℤ) → t.width ≤ 128 → Congruent t.width (pos n) z → n % 2 ^ 128 % 2 ^ t.width ≡ word_of t z
word_of_low t n z w h =
    let total : t.width + (128 - t.width) ≡ 128 = omega arith in
    let low : Congruent t.width (pos (n % 2 ^ 128)) (pos n) = fewer t.width (128 - t.width) _ _ (rw total (rest_congruent 128 (pos n))) in
    same_word t (pos (n % 2 ^ 128)) z (joined t.width _ (pos n) z low h)

module _ (t : Ty) (a b : ℕ) (w : t.width ≤ 128) where
  x : Congruent t.width (pos a) (value_of t a)
  x = turned t.width _ _ (value_congruent t a)

  y : Congruent t.width (pos b) (value_of t b)
  y = turned t.width _ _ (value_congruent t b)

  pub wrapped_sum : (a + b) % 2 ^ 128 % 2 ^ t.width ≡ word_of t (value_of t a +ℤ value_of t b)
  wrapped_sum = word_of_low t (a + b) _ w (sums t.width _ _ _ _ x y)

  pub wrapped_product : (a * b) % 2 ^ 128 % 2 ^ t.width ≡ word_of t (value_of t a *ℤ value_of t b)
  wrapped_product = word_of_low t (a * b) _ w (products t.width _ _ _ _ x y)

  pub wrapped_difference : b < 2 ^ 128 → (a + (2 ^ 128 - b)) % 2 ^ 128 % 2 ^ t.width ≡ word_of t (value_of t a -ℤ value_of t b)
  wrapped_difference s =
      let total : t.width + (128 - t.width) ≡ 128 = omega arith in
      let more : Congruent 128 (pos (a + (2 ^ 128 - b))) (pos a -ℤ pos b) = record { multiple = pos 1; differ = omega (arith, ints) } in
      let low : Congruent t.width (pos (a + (2 ^ 128 - b))) (pos a -ℤ pos b) = fewer t.width (128 - t.width) _ _ (rw total more) in
      word_of_low t (a + (2 ^ 128 - b)) _ w (joined t.width _ _ _ low (differences t.width _ _ _ _ x y))

-- a value of a type is below 2 ^ 128 in size
pub small_value : (t : Ty) (z : ℤ) → t.width ≤ 128 → IsTrue (in_range t z) → unsigned_abs z < 2 ^ 128
small_value t z w h = by t.unsigned (bounds t z h)
  where
    by : (u : Bool) → (cond u (pos 0) (neg_ℤ (pos (2 ^ (t.width - 1)))) ≤ℤ z) × (z ≤ℤ cond u (pos (2 ^ t.width - 1)) (pos (2 ^ (t.width - 1) - 1))) → unsigned_abs z < 2 ^ 128
    by true p = omega (arith, ints, p.0, p.1, pow_mono w, pow_pos t.width)
    by false p = let less : t.width - 1 ≤ 127 = omega arith in omega (arith, ints, p.0, p.1, pow_mono less, pow_pos (t.width - 1))

pub out_of_range : (t : Ty) (z : ℤ) → t.width ≤ 128 → 2 ^ 128 ≤ unsigned_abs z → in_range t z ≡ false
out_of_range t z w h = by (in_range t z) refl
  where
    by : (b : Bool) → in_range t z ≡ b → b ≡ false
    by true e = absurd (let s = small_value t z w e in omega arith)
    by false e = refl

-- ---- bits of words

module _ (w a b : ℕ) (p : a < 2 ^ w) (q : b < 2 ^ w) where
  pub and_word : bit_and a b % 2 ^ w ≡ bit_and a b
  and_word = let small : bit_and a b < 2 ^ w = omega (arith, and_le_l a b) in mod-eq_of_lt small

  pub or_word : bit_or a b % 2 ^ w ≡ bit_or a b
  or_word = mod-eq_of_lt (or_lt w a b p q)

  pub xor_word : bit_xor a b % 2 ^ w ≡ bit_xor a b
  xor_word = mod-eq_of_lt (xor_lt w a b p q)

-- the complement at 128 bits, reduced
pub not_word : (w a : ℕ) → w ≤ 128 → a < 2 ^ w → (2 ^ 128 - 1 - a) % 2 ^ w ≡ 2 ^ w - 1 - a
not_word w a h p =
    let k = 128 - w in
    let total : k + w ≡ 128 = omega arith in
    let high : ℕ = 2 ^ k - 1 in
    let some = pow_pos k in
    let split : 2 ^ k ≡ high + 1 = omega arith in
    let whole : 2 ^ 128 ≡ (high + 1) * 2 ^ w = ap (λ n. 2 ^ n) (sym total) ∙ pow-add 2 k w ∙ ap (λ n. n * 2 ^ w) split in
    let sum : 2 ^ 128 - 1 - a ≡ high * 2 ^ w + (2 ^ w - 1 - a) = complement (2 ^ 128) high (2 ^ w) a p whole in
    ap (λ n. n % 2 ^ w) sum ∙ mod_low high w (2 ^ w - 1 - a) (omega arith)
  where
    complement : (n h m a : ℕ) → a < m → n ≡ (h + 1) * m → n - 1 - a ≡ h * m + (m - 1 - a)
    complement n h m a p e = omega arith

-- a word shifted up at 128 bits, reduced
pub shifted_up : (t : Ty) (a k : ℕ) → t.width ≤ 128 → (a * 2 ^ k) % 2 ^ 128 % 2 ^ t.width ≡ word_of t (value_of t a *ℤ pos (2 ^ k))
shifted_up t a k w = word_of_low t (a * 2 ^ k) _ w (times t.width _ _ (pos (2 ^ k)) (x t a 0 w))
