-- Constants by which one may shift or divide, told by their words.
use Rattle.std.proofs.Common.{◌≡◌, ℕ, suc, ◌+◌, ◌-◌, ◌%◌, ◌^◌, ◌<◌, ◌≤◌, ◌==◌, Bool, true, false, not, cond, ◌&&◌, ◌||◌, refl, sym, ap, ◌∙◌, arith}
use Rattle.std.specs.Prelude.{ℤ, pos, negsuc, ◌-ℤ◌, nat_lt}
use Rattle.std.specs.Int.RustNames.{int_lt, int_le}
use Rattle.std.proofs.lemmas.Bool.Decides.{nat_tests}
use Rattle.std.proofs.lemmas.Int.{ints}
use Rattle.pm_wide.specs.Operations.{int_same, shifts}
use Rattle.pm_wide.specs.Types.{Ty, Word, IsType, IsWord, value, value_of}
use Rattle.justify.proofs.EachType.{each_type}

module _ (half n : ℕ) where
  -- from the middle on a word stands for a number below 0
  negative : n < half + half → pos n -ℤ pos (half + half) ≡ negsuc (half + half - suc n)
  negative h = omega (arith, ints, h)

  abbrev halved : Bool → ℤ
  halved b = cond b (pos n) (pos n -ℤ pos (half + half))

  plain_place : (m : ℕ) → nat_lt n m ≡ (int_le (pos 0) (pos n) && int_lt (pos n) (pos m))
  plain_place m = grind (arith, nat_tests)

  signed_place : (m : ℕ) → m ≤ half → n < half + half → nat_lt n m ≡ (int_le (pos 0) (halved (nat_lt n half)) && int_lt (halved (nat_lt n half)) (pos m))
  signed_place m le h = by (nat_lt n half) refl
    where
      by : (b : Bool) → nat_lt n half ≡ b → nat_lt n m ≡ (int_le (pos 0) (halved b) && int_lt (halved b) (pos m))
      by true e = plain_place m
      by false e =
          let far : nat_lt n m ≡ false = grind (arith, nat_tests, e, le) in far ∙ ap (λ z. int_le (pos 0) z && int_lt z (pos m)) (sym (negative h))

  plain_divisor : (not (n == 0) && true) ≡ (not (int_same (pos n) (pos 0)) && not (int_same (pos n) (negsuc 0)))
  plain_divisor = grind (arith, nat_tests)

  signed_divisor : 0 < half → n < half + half → (not (n == 0) && not (n == half + half - 1)) ≡ (not (int_same (halved (nat_lt n half)) (pos 0)) && not (int_same (halved (nat_lt n half)) (negsuc 0)))
  signed_divisor some h = by (nat_lt n half) refl
    where
      by : (b : Bool) → nat_lt n half ≡ b → (not (n == 0) && not (n == half + half - 1)) ≡ (not (int_same (halved b) (pos 0)) && not (int_same (halved b) (negsuc 0)))
      by true e = let other : (n == half + half - 1) ≡ false = grind (arith, nat_tests, e, some) in ap (λ t. not (n == 0) && not t) other ∙ plain_divisor
      by false e =
          let other : (n == 0) ≡ false = grind (arith, nat_tests, e, some) in
          let last : (n == half + half - 1) ≡ int_same (negsuc (half + half - suc n)) (negsuc 0) = grind (arith, nat_tests, e, some, h) in
          (λ i. not (other i) && not (last i)) ∙ ap (λ z. not (int_same z (pos 0)) && not (int_same z (negsuc 0))) (sym (negative h))

pub place_is : (ty : Ty) (w : Word) → IsType ty → IsWord w → nat_lt w.bits ty.width ≡ shifts ty (value w)
place_is ty w k h =
    let within : ty.width ≤ 128 = grind (arith, nat_tests, k) in
    each_type (λ s. (n : ℕ) → n < 2 ^ s.width → nat_lt n ty.width ≡ shifts ty (value_of s n)) w.ty h.1 (λ n b. plain_place 1 n ty.width)
    (λ n b. signed_place (2 ^ 7) n ty.width within b) (λ n b. plain_place 1 n ty.width) (λ n b. signed_place (2 ^ 15) n ty.width (omega (arith, within)) b) (λ n b. plain_place 1 n ty.width)
    (λ n b. signed_place (2 ^ 31) n ty.width (omega (arith, within)) b) (λ n b. plain_place 1 n ty.width) (λ n b. signed_place (2 ^ 63) n ty.width (omega (arith, within)) b) (λ n b. plain_place 1 n ty.width)
    (λ n b. signed_place (2 ^ 127) n ty.width (omega (arith, within)) b) (λ n b. plain_place 1 n ty.width) w.bits h.0

pub divisor_is : (w : Word) → IsWord w → (not (w.bits == 0) && (w.ty.unsigned || not (w.bits == (2 ^ 128 - 1) % 2 ^ w.ty.width))) ≡ (not (int_same (value w) (pos 0)) && not (int_same (value w) (negsuc 0)))
divisor_is w h =
    each_type (λ s. (n : ℕ) → n < 2 ^ s.width → (not (n == 0) && (s.unsigned || not (n == (2 ^ 128 - 1) % 2 ^ s.width))) ≡ (not (int_same (value_of s n) (pos 0)) && not (int_same (value_of s n) (negsuc 0)))) w.ty h.1
    (λ n b. plain_divisor 1 n) (λ n b. signed_divisor (2 ^ 7) n (omega arith) b) (λ n b. plain_divisor 1 n) (λ n b. signed_divisor (2 ^ 15) n (omega arith) b) (λ n b. plain_divisor 1 n)
    (λ n b. signed_divisor (2 ^ 31) n (omega arith) b) (λ n b. plain_divisor 1 n) (λ n b. signed_divisor (2 ^ 63) n (omega arith) b) (λ n b. plain_divisor 1 n) (λ n b. signed_divisor (2 ^ 127) n (omega arith) b)
    (λ n b. plain_divisor 1 n) w.bits h.0
