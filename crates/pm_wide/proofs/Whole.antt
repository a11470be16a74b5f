-- Laws of the ring of whole numbers that the kit doesn't state.
use Rattle.std.proofs.Common.{◌≡◌, ◌*◌, Bool, true, false, not, refl, ap, ◌∙◌, arith}
use Rattle.std.specs.Int.RustNames.{int_lt, int_le}
use Rattle.std.specs.Prelude.{ℤ, pos, neg_ℤ, ◌+ℤ◌, ◌-ℤ◌, ◌*ℤ◌}
use Rattle.std.proofs.lemmas.Int.{ints}
use Rattle.std.proofs.Math.IntN.{*ℤ_comm}
use borrow.Author.Differences.{up, down, sum_is_lem, product_is, neg_is}

pub mul_comm : (a b : ℤ) → a *ℤ b ≡ b *ℤ a
mul_comm a b = *ℤ_comm a b

pub add-mul : (a b c : ℤ) → (a +ℤ b) *ℤ c ≡ a *ℤ c +ℤ b *ℤ c
add-mul a b c = omega (arith, ints, ap (λ x. x * up c) (sum_is_lem a b), ap (λ x. x * down c) (sum_is_lem a b))

pub mul-add : (a b c : ℤ) → a *ℤ (b +ℤ c) ≡ a *ℤ b +ℤ a *ℤ c
mul-add a b c = omega (arith, ints, ap (λ x. up a * x) (sum_is_lem b c), ap (λ x. down a * x) (sum_is_lem b c))

pub neg-mul : (a b : ℤ) → neg_ℤ a *ℤ b ≡ neg_ℤ (a *ℤ b)
neg-mul a b = let e = neg_is a in omega (arith, ints, ap (λ x. x * up b) e.0, ap (λ x. x * up b) e.1, ap (λ x. x * down b) e.0, ap (λ x. x * down b) e.1)

pub mul-neg : (a b : ℤ) → a *ℤ neg_ℤ b ≡ neg_ℤ (a *ℤ b)
mul-neg a b = mul_comm a (neg_ℤ b) ∙ neg-mul b a ∙ ap neg_ℤ (mul_comm b a)

pub sub-mul : (a b c : ℤ) → (a -ℤ b) *ℤ c ≡ a *ℤ c -ℤ b *ℤ c
sub-mul a b c = add-mul a (neg_ℤ b) c ∙ ap (λ z. a *ℤ c +ℤ z) (neg-mul b c)

pub mul-sub : (a b c : ℤ) → a *ℤ (b -ℤ c) ≡ a *ℤ b -ℤ a *ℤ c
mul-sub a b c = mul-add a b (neg_ℤ c) ∙ ap (λ z. a *ℤ b +ℤ z) (mul-neg a c)

pub mul_assoc : (a b c : ℤ) → (a *ℤ b) *ℤ c ≡ a *ℤ (b *ℤ c)
mul_assoc a b c =
    let e = product_is a b in
    let f = product_is b c in
    omega (arith, ints, ap (λ x. x * up c) e.0, ap (λ x. x * up c) e.1, ap (λ x. x * down c) e.0, ap (λ x. x * down c) e.1, ap (λ x. up a * x) f.0, ap (λ x. up a * x) f.1, ap (λ x. down a * x) f.0, ap (λ x. down a * x) f.1)

pub one-mul : (a : ℤ) → pos 1 *ℤ a ≡ a
one-mul a = omega (arith, ints)

pub mul-one : (a : ℤ) → a *ℤ pos 1 ≡ a
mul-one a = omega (arith, ints)

-- at most, where not above
pub at_most : (a b : ℤ) → not (int_lt b a) ≡ int_le a b
at_most a b = by (int_lt b a) refl
  where
    by : (t : Bool) → int_lt b a ≡ t → not t ≡ int_le a b
    by true e = omega (arith, ints)
    by false e = omega (arith, ints)
