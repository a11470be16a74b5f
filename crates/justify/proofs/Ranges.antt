-- A value of a type with a sign stays what it is on the way to the widest such type and back, and no
-- other number does.
use Rattle.std.proofs.Common.{◌≡◌, ◌^◌, ◌-◌, ◌≤◌, Bool, true, false, cond, ◌&&◌, refl, sym, ap, subst, ◌∙◌, arith}
use Rattle.std.specs.Prelude.{ℤ, pos, neg_ℤ, ◌≤ℤ◌, IsTrue, ◌↔◌}
use Rattle.std.specs.Cmp.{both_ways}
use Rattle.std.proofs.lemmas.Int.{ints}
use Rattle.std.proofs.Math.Pow.{pow_mono}
use Rattle.pm_wide.specs.Types.{Ty, Word, IsType, IsWord, value, value_of, word, word_of, in_range, int128_type}
use Rattle.pm_wide.proofs.Values.{width_positive, width_small}
use Rattle.pm_wide.proofs.Words.{bounds, within, word-below, word-value, value-word, value_in_range}

-- the value of the word of a number in a type with a sign is one of the widest
back_value : (t : Ty) → IsType t → t.unsigned ≡ false → (z : ℤ) → IsTrue (in_range t z) → (n : Word) → n.ty ≡ int128_type → IsWord n → value n ≡ z → word int128_type (value (word t z)) ≡ n
back_value t k u z h n e w is =
    let there : value (word t z) ≡ z = value-word t z (width_positive t k) h in
    let bits : word_of int128_type z ≡ n.bits = ap (word_of int128_type) (sym is) ∙ subst (λ (s : Ty). word_of s (value n) ≡ n.bits) e (word-value n.ty n.bits w.0) in
    ap (word int128_type) there ∙ (λ i. record { bits = bits i; ty = sym e i })

wider : (t : Ty) → IsType t → t.unsigned ≡ false → (y : ℤ) → IsTrue (in_range t y) → IsTrue (in_range int128_type y)
wider t k u y h =
    let b = bounds t y h in
    let low : neg_ℤ (pos (2 ^ (t.width - 1))) ≤ℤ y = subst (λ s. cond s (pos 0) (neg_ℤ (pos (2 ^ (t.width - 1)))) ≤ℤ y) u b.0 in
    let high : y ≤ℤ pos (2 ^ (t.width - 1) - 1) = subst (λ s. y ≤ℤ cond s (pos (2 ^ t.width - 1)) (pos (2 ^ (t.width - 1) - 1))) u b.1 in
    let small = width_small t k in
    let le : t.width - 1 ≤ 127 = omega (arith, small) in
    let power : 2 ^ (t.width - 1) ≤ 2 ^ 127 = pow_mono le in
    within int128_type y (omega (arith, ints, low, power)) (omega (arith, ints, high, power))

pub back_is : (b : Bool) (t : Ty) (n there : Word) → IsType t → t.unsigned ≡ false → n.ty ≡ int128_type → IsWord n → there ≡ word t (value n) → (IsTrue b ↔ (word int128_type (value there) ≡ n)) → b ≡ in_range t (value n)
back_is b t n there k u e w is h = both_ways b (in_range t (value n)) into (λ g. h.1 (ap (λ x. word int128_type (value x)) is ∙ back_value t k u (value n) g n e w refl))
  where
    into : b ≡ true → in_range t (value n) ≡ true
    into g =
        let same : word int128_type (value there) ≡ n = h.0 g in
        let own : value there ≡ value (word t (value n)) = ap value is in
        let range : IsTrue (in_range t (value there)) = subst (λ z. IsTrue (in_range t z)) (sym own) (value_in_range t (word_of t (value n)) (width_positive t k) (word-below t (value n))) in
        let back : value n ≡ value there = ap value (sym same) ∙ value-word int128_type (value there) (omega arith) (wider t k u (value there) range) in
        subst (λ z. IsTrue (in_range t z)) (sym back) range
