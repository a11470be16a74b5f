-- Four numbers of which two and two agree but at one place, where they are crossed: bits of such
-- numbers give such numbers, and their sums are equal.
use Rattle.std.proofs.Common.{◌≡◌, ℕ, zero, suc, ◌+◌, ◌-◌, ◌*◌, ◌/◌, ◌%◌, ◌^◌, ◌≤◌, ◌<◌, refl, sym, ap, subst, ◌∙◌, arith}
use Rattle.std.specs.Prelude.{bit_and, bit_or, bit_xor}
use Rattle.std.specs.Int.Bits.{and_shr, or_shr, xor_shr, and_mod, or_mod, xor_mod, shifted_half, shifted_even, xor_add_and, and_mask}
use Rattle.std.proofs.lemmas.Nat.{mod-pow-add, div-add-mod', and_le_l, or_lt, xor_lt, pow_pos}
use Rattle.std.proofs.lemmas.Nat.Bits.{bit_at-suc}
use Rattle.std.proofs.Math.Nat.{mod-eq_of_lt, mod-le, mul-le-mul_left}

-- a and c, b and d agree but at place k, where a and d, b and c do
abbrev pub Crossed : ℕ → ℕ → ℕ → ℕ → ℕ → Type 0
Crossed zero a b c d = (a / 2 ≡ c / 2) × (b / 2 ≡ d / 2) × (a % 2 ≡ d % 2) × (b % 2 ≡ c % 2)
Crossed (suc k) a b c d = (a % 2 ≡ c % 2) × (b % 2 ≡ d % 2) × Crossed k (a / 2) (b / 2) (c / 2) (d / 2)

pub crossed_sum : (k a b c d : ℕ) → Crossed k a b c d → a + b ≡ c + d
crossed_sum zero a b c d h = omega (arith, h.0, h.1, h.2, h.3)
crossed_sum (suc k) a b c d h = let e = crossed_sum k (a / 2) (b / 2) (c / 2) (d / 2) h.2 in omega (arith, h.0, h.1, e)

pub crossed_same : (k a : ℕ) → Crossed k a a a a
crossed_same zero a = (refl, refl, refl, refl)
crossed_same (suc k) a = (refl, refl, crossed_same k (a / 2))

moved : (k a b c d x y z w : ℕ) → x ≡ a → y ≡ b → z ≡ c → w ≡ d → Crossed k x y z w → Crossed k a b c d
moved k a b c d x y z w p q r s h =
    subst (λ t. Crossed k a b c t) s (subst (λ t. Crossed k a b t w) r (subst (λ t. Crossed k a t z w) q (subst (λ t. Crossed k t y z w) p h)))

module _ (f : ℕ → ℕ → ℕ) (halves : (a b : ℕ) → f a b / 2 ≡ f (a / 2) (b / 2)) (lows : (a b : ℕ) → f a b % 2 ≡ f (a % 2) (b % 2)) where
  same_half : (a b c d : ℕ) → a / 2 ≡ c / 2 → b / 2 ≡ d / 2 → f a b / 2 ≡ f c d / 2
  same_half a b c d p q = halves a b ∙ (λ i. f (p i) (q i)) ∙ sym (halves c d)

  same_low : (a b c d : ℕ) → a % 2 ≡ c % 2 → b % 2 ≡ d % 2 → f a b % 2 ≡ f c d % 2
  same_low a b c d p q = lows a b ∙ (λ i. f (p i) (q i)) ∙ sym (lows c d)

  crossed_by : (k a b c d x y z w : ℕ) → Crossed k a b c d → Crossed k x y z w → Crossed k (f a x) (f b y) (f c z) (f d w)
  crossed_by zero a b c d x y z w h g =
      (same_half a x c z h.0 g.0, same_half b y d w h.1 g.1, same_low a x d w h.2 g.2, same_low b y c z h.3 g.3)
  crossed_by (suc k) a b c d x y z w h g = (
    same_low a x c z h.0 g.0,
    same_low b y d w h.1 g.1,
    moved k _ _ _ _ _ _ _ _ (sym (halves a x)) (sym (halves b y)) (sym (halves c z)) (sym (halves d w))
        (crossed_by k (a / 2) (b / 2) (c / 2) (d / 2) (x / 2) (y / 2) (z / 2) (w / 2) h.2 g.2),
  )

pub crossed_and : (k a b c d x y z w : ℕ) → Crossed k a b c d → Crossed k x y z w → Crossed k (bit_and a x) (bit_and b y) (bit_and c z) (bit_and d w)
crossed_and = crossed_by bit_and (λ a b. and_shr a b 1) (λ a b. and_mod a b 1)

pub crossed_or : (k a b c d x y z w : ℕ) → Crossed k a b c d → Crossed k x y z w → Crossed k (bit_or a x) (bit_or b y) (bit_or c z) (bit_or d w)
crossed_or = crossed_by bit_or (λ a b. or_shr a b 1) (λ a b. or_mod a b 1)

pub crossed_xor : (k a b c d x y z w : ℕ) → Crossed k a b c d → Crossed k x y z w → Crossed k (bit_xor a x) (bit_xor b y) (bit_xor c z) (bit_xor d w)
crossed_xor = crossed_by bit_xor (λ a b. xor_shr a b 1) (λ a b. xor_mod a b 1)

-- the complement at p bits changes every bit
complement_is : (p a : ℕ) → a < 2 ^ p → bit_xor a (2 ^ p - 1) ≡ 2 ^ p - 1 - a
complement_is p a h =
    let sum = xor_add_and a (2 ^ p - 1) in
    let both : bit_and a (2 ^ p - 1) ≡ a = and_mask a p ∙ mod-eq_of_lt h in
    omega (arith, sum, both)

-- ---- four words of p bits

pub record Four (p k a b c d : ℕ) : Type 0 where
  pub first : a < 2 ^ p
  pub second : b < 2 ^ p
  pub third : c < 2 ^ p
  pub fourth : d < 2 ^ p
  pub crossed : Crossed k a b c d

pub four_same : (p k a : ℕ) → a < 2 ^ p → Four p k a a a a
four_same p k a h = record { first = h; second = h; third = h; fourth = h; crossed = crossed_same k a }

and_small : (p a b : ℕ) → a < 2 ^ p → bit_and a b < 2 ^ p
and_small p a b h = omega (arith, and_le_l a b)

pub four_and : (p k a b c d x y z w : ℕ) → Four p k a b c d → Four p k x y z w → Four p k (bit_and a x) (bit_and b y) (bit_and c z) (bit_and d w)
four_and p k a b c d x y z w h g = record {
  first = and_small p a x h.first;
  second = and_small p b y h.second;
  third = and_small p c z h.third;
  fourth = and_small p d w h.fourth;
  crossed = crossed_and k a b c d x y z w h.crossed g.crossed;
}

pub four_or : (p k a b c d x y z w : ℕ) → Four p k a b c d → Four p k x y z w → Four p k (bit_or a x) (bit_or b y) (bit_or c z) (bit_or d w)
four_or p k a b c d x y z w h g = record {
  first = or_lt p a x h.first g.first;
  second = or_lt p b y h.second g.second;
  third = or_lt p c z h.third g.third;
  fourth = or_lt p d w h.fourth g.fourth;
  crossed = crossed_or k a b c d x y z w h.crossed g.crossed;
}

pub four_xor : (p k a b c d x y z w : ℕ) → Four p k a b c d → Four p k x y z w → Four p k (bit_xor a x) (bit_xor b y) (bit_xor c z) (bit_xor d w)
four_xor p k a b c d x y z w h g = record {
  first = xor_lt p a x h.first g.first;
  second = xor_lt p b y h.second g.second;
  third = xor_lt p c z h.third g.third;
  fourth = xor_lt p d w h.fourth g.fourth;
  crossed = crossed_xor k a b c d x y z w h.crossed g.crossed;
}

pub four_not : (p k a b c d : ℕ) → Four p k a b c d → Four p k (2 ^ p - 1 - a) (2 ^ p - 1 - b) (2 ^ p - 1 - c) (2 ^ p - 1 - d)
four_not p k a b c d h =
    let some = pow_pos p in
    let m = 2 ^ p - 1 in
    record {
      first = omega arith;
      second = omega arith;
      third = omega arith;
      fourth = omega arith;
      crossed = moved k _ _ _ _ _ _ _ _ (complement_is p a h.first) (complement_is p b h.second) (complement_is p c h.third) (complement_is p d h.fourth)
          (crossed_xor k a b c d m m m m h.crossed (crossed_same k m));
    }

-- ---- the bits of a number below a place, and at it

-- the number that has the bit of n at place k alone
abbrev pub at_place : ℕ → ℕ → ℕ
at_place n k = (n / 2 ^ k % 2) * 2 ^ k

low_step : (n m : ℕ) → n % 2 ^ suc m ≡ (n / 2 % 2 ^ m) * 2 + n % 2
low_step n m = let e : suc m ≡ m + 1 = omega arith in ap (λ t. n % 2 ^ t) e ∙ mod-pow-add n m 1

low_half : (n m : ℕ) → n % 2 ^ suc m / 2 ≡ n / 2 % 2 ^ m
low_half n m = let e = low_step n m in omega (arith, e)

low_low : (n m : ℕ) → n % 2 ^ suc m % 2 ≡ n % 2
low_low n m = let e = low_step n m in omega (arith, e)

pub place_crossed : (k n : ℕ) → Crossed k (n % 2 ^ suc k) 0 (n % 2 ^ k) (at_place n k)
place_crossed zero n = (omega arith, omega arith, omega arith, omega arith)
place_crossed (suc k) n = (
  low_low n (suc k) ∙ sym (low_low n k),
  sym (shifted_even (n / 2 ^ suc k % 2) k),
  moved k _ _ _ _ _ _ _ _ (sym (low_half n (suc k))) refl (sym (low_half n k))
      (sym (shifted_half (n / 2 ^ suc k % 2) k ∙ ap (λ b. b * 2 ^ k) (bit_at-suc n k))) (place_crossed k (n / 2)),
)

place_at_most : (n k : ℕ) → at_place n k ≤ n
place_at_most n k =
    let b = n / 2 ^ k in
    let less : b % 2 ≤ b = mod-le b 2 in
    let e = div-add-mod' n (2 ^ k) in
    omega (arith, mul-le-mul_left (2 ^ k) less, e)

pub four_place : (p k n : ℕ) → n < 2 ^ p → Four p k (n % 2 ^ suc k) 0 (n % 2 ^ k) (at_place n k)
four_place p k n h = record {
  first = omega (arith, mod-le n (2 ^ suc k));
  second = pow_pos p;
  third = omega (arith, mod-le n (2 ^ k));
  fourth = omega (arith, place_at_most n k);
  crossed = place_crossed k n;
}
