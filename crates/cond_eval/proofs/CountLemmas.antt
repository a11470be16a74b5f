-- Zeros above and below the bits of a word, at 128 bits and at a smaller precision.
use Rattle.std.proofs.Common.{◌≡◌, ℕ, zero, suc, ◌+◌, ◌-◌, ◌/◌, ◌%◌, ◌^◌, ◌≤◌, ◌<◌, refl, sym, ap, ◌∙◌, arith}
use Rattle.std.proofs.Math.Nat.{pow-suc, mod-lt}
use lib.Count.{count_leading_zeros, count_trailing_zeros, under, leading_length, leading_unique, trailing_of_zero}

leading : (p a : ℕ) → p ≤ 128 → a < 2 ^ p
    → count_leading_zeros p a + (128 - p) ≡ count_leading_zeros 128 a
leading p a h k =
    let l = leading_length p a k in leading_unique 128 a _ l.0 (omega (arith, l.1)) l.2 l.3

pub zeros_above : (p a : ℕ) → p ≤ 128 → a < 2 ^ p
    → count_leading_zeros 128 a - (128 - p) ≡ count_leading_zeros p a
zeros_above p a h k = omega (arith, leading p a h k)

pub enough_above : (p a : ℕ) → p ≤ 128 → a < 2 ^ p → 128 - p ≤ count_leading_zeros 128 a
enough_above p a h k = omega (arith, leading p a h k)

digit : (d : ℕ) (s t : ℕ) → d < 2 → (d ≡ 0 → s ≡ t) → under d s ≡ under d t
digit zero s t h e = ap suc (e refl)
digit (suc d) s t h e = refl

longer : (k m n : ℕ) → 0 < n → n < 2 ^ k → count_trailing_zeros (k + m) n ≡ count_trailing_zeros k n
unfolding count_trailing_zeros
longer zero m n some h = absurd (omega arith)
longer (suc k) m n some h =
    let e : suc k + m ≡ suc (k + m) = omega arith in
    rw e (digit (n % 2) _ _ (mod-lt n (omega arith))
    (λ even. longer k m (n / 2) (omega (arith, even)) (omega (arith, pow-suc 2 k))))

pub zeros_below : (p a : ℕ) → p ≤ 128 → 0 < a → a < 2 ^ p
    → count_trailing_zeros 128 a ≡ count_trailing_zeros p a
zeros_below p a h some k =
    let total : p + (128 - p) ≡ 128 = omega arith in
    ap (λ n. count_trailing_zeros n a) (sym total) ∙ longer p (128 - p) a some k

pub zeros_below_none : (p : ℕ) → p ≡ count_trailing_zeros p 0
zeros_below_none p = sym (trailing_of_zero p)
