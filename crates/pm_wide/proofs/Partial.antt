-- Where an operation has no value, in the words of the operation table.
use Rattle.std.proofs.Common.{◌≡◌, ℕ, zero, suc, ◌+◌, ◌-◌, ◌*◌, ◌^◌, ◌≤◌, ◌<◌, Bool, true, false, not, cond, ◌&&◌, refl, sym, ap, subst, ◌∙◌, ◌⊎◌, inl, inr, arith}
use Rattle.std.specs.Prelude.{ℤ, pos, negsuc, neg_ℤ, ◌≤ℤ◌, IsTrue}
use Rattle.std.specs.Int.RustNames.{int_le, int_div, unsigned_abs}
use Rattle.std.proofs.lemmas.Bool.{and_parts, and_from}
use Rattle.std.proofs.lemmas.Bool.Decides.{nat_tests}
use Rattle.std.proofs.lemmas.Int.{ints}
use Rattle.std.proofs.lemmas.Nat.{div-add-mod', pow_pos}
use Rattle.std.proofs.Math.Nat.{div-le_self}
use Rattle.std.proofs.Math.Pow.{pow_mono}
use borrow.Author.Differences.{up, down}
use Rattle.pm_wide.specs.Types.{Ty, IsType, in_range, least, greatest}
use Rattle.pm_wide.specs.Operations.{divides, int_same, least_by_minus_one}
use Rattle.pm_wide.proofs.Words.{bounds, within}
use Rattle.pm_wide.proofs.Values.{between_in_range}

same_out : (x y : ℤ) → int_same x y ≡ true → x ≡ y
same_out x y h = let p = and_parts (int_le x y) (int_le y x) h in omega (arith, ints, p.0, p.1)

same_in : (x y : ℤ) → x ≡ y → int_same x y ≡ true
same_in x y e = and_from (int_le x y) (int_le y x) (sym (omega (arith, ints))) (sym (omega (arith, ints)))

apart : (x y : ℤ) → int_same x y ≡ false → x ≡ y → ⊥
apart x y h e = let s = same_in x y e in cc

signed_width : (t : Ty) → IsType t → t.unsigned ≡ false → 2 ≤ t.width
signed_width t k u = grind (arith, nat_tests)

half_at_least : (w : ℕ) → 2 ≤ w → 2 ≤ 2 ^ (w - 1)
half_at_least w h = let one : 1 ≤ w - 1 = omega arith in omega (arith, pow_mono one)

-- a quotient by a positive number lies between 0 and the dividend
forward : (x : ℤ) (b : ℕ) → (up (int_div x (pos (suc b))) ≤ up x) × (down (int_div x (pos (suc b))) ≤ down x)
forward (pos a) b = (div-le_self a (suc b), omega arith)
forward (negsuc a) b = omega (arith, ints, div-le_self (suc a) (suc b))

-- and one by a negative number is no larger than the dividend, and at most half of it but for -1
backward : (x : ℤ) (b : ℕ) → (up (int_div x (negsuc b)) ≤ down x) × (down (int_div x (negsuc b)) ≤ up x)
backward (pos a) b = omega (arith, ints, div-le_self a (suc b))
backward (negsuc a) b = (div-le_self (suc a) (suc b), omega arith)

halved : (x : ℤ) (b : ℕ) → 2 * up (int_div x (negsuc (suc b))) ≤ down x
halved (pos a) b = omega (arith, ints)
halved (negsuc a) b = let e = div-add-mod' (suc a) (suc (suc b)) in omega arith

parts : (x : ℤ) → (up x ≡ 0) ⊎ (down x ≡ 0)
parts (pos n) = inr refl
parts (negsuc n) = inl refl

module _ (t : Ty) (x : ℤ) (k : IsType t) (p : IsTrue (in_range t x)) where
  edge : (least t ≤ℤ x) × (x ≤ℤ greatest t)
  edge = bounds t x p

  -- in a signed type: what is bounded as the range is
  signed_within : t.unsigned ≡ false → (z : ℤ) → up z + 1 ≤ down z + 2 ^ (t.width - 1) → down z ≤ up z + 2 ^ (t.width - 1) → IsTrue (in_range t z)
  signed_within u z i j = by t.unsigned u (λ f g. within t z f g)
    where
      some : 0 < 2 ^ (t.width - 1)
      some = pow_pos (t.width - 1)

      by : (s : Bool) → s ≡ false → (cond s (pos 0) (neg_ℤ (pos (2 ^ (t.width - 1)))) ≤ℤ z → z ≤ℤ cond s (pos (2 ^ t.width - 1)) (pos (2 ^ (t.width - 1) - 1)) → IsTrue (in_range t z)) → IsTrue (in_range t z)
      by true e f = cc
      by false e f = f (omega (arith, ints)) (omega (arith, ints, some))

  signed_bounds : t.unsigned ≡ false → (up x + 1 ≤ down x + 2 ^ (t.width - 1)) × (down x ≤ up x + 2 ^ (t.width - 1))
  signed_bounds u = by t.unsigned u edge
    where
      some : 0 < 2 ^ (t.width - 1)
      some = pow_pos (t.width - 1)

      by : (s : Bool) → s ≡ false → (cond s (pos 0) (neg_ℤ (pos (2 ^ (t.width - 1)))) ≤ℤ x) × (x ≤ℤ cond s (pos (2 ^ t.width - 1)) (pos (2 ^ (t.width - 1) - 1))) → (up x + 1 ≤ down x + 2 ^ (t.width - 1)) × (down x ≤ up x + 2 ^ (t.width - 1))
      by true e f = cc
      by false e f = (omega (arith, ints, f.0, f.1, some), omega (arith, ints, f.0, f.1, some))

  -- in a type without a sign no value is below 0
  unsigned_bounds : t.unsigned ≡ true → down x ≤ up x
  unsigned_bounds u = by t.unsigned u edge
    where
      by : (s : Bool) → s ≡ true → (cond s (pos 0) (neg_ℤ (pos (2 ^ (t.width - 1)))) ≤ℤ x) × (x ≤ℤ cond s (pos (2 ^ t.width - 1)) (pos (2 ^ (t.width - 1) - 1))) → down x ≤ up x
      by true e f = omega (arith, ints, f.0, f.1)
      by false e f = cc

-- the least value of a signed type
least_signed : (t : Ty) → t.unsigned ≡ false → least t ≡ neg_ℤ (pos (2 ^ (t.width - 1)))
least_signed t u = by t.unsigned u
  where
    by : (s : Bool) → s ≡ false → cond s (pos 0) (neg_ℤ (pos (2 ^ (t.width - 1)))) ≡ neg_ℤ (pos (2 ^ (t.width - 1)))
    by true e = cc
    by false e = refl

module _ (t : Ty) (k : IsType t) (x : ℤ) (p : IsTrue (in_range t x)) where
  -- by -1 only the least value has no quotient in range
  by_minus_one : t.unsigned ≡ false → (x ≡ least t → ⊥) → IsTrue (in_range t (int_div x (negsuc 0)))
  by_minus_one u other =
      let b = signed_bounds t x k p u in
      let h = backward x 0 in
      let far : down x ≡ up x + 2 ^ (t.width - 1) → ⊥ = λ e. other (let l = least_signed t u in omega (arith, ints, e, l)) in
      let some = pow_pos (t.width - 1) in
      signed_within t x k p u (int_div x (negsuc 0)) (omega (arith, h.0, h.1, b.0, b.1, far, parts x)) (omega (arith, h.0, h.1, b.0, b.1, parts x))

  quotient_within : (y : ℤ) → IsTrue (in_range t y) → (y ≡ pos 0 → ⊥) → ((t.unsigned ≡ false) × (x ≡ least t) × (y ≡ negsuc 0) → ⊥) → IsTrue (in_range t (int_div x y))
  quotient_within (pos zero) q z m = absurd (z refl)
  quotient_within (pos (suc b)) q z m = let f = forward x b in between_in_range t x (int_div x (pos (suc b))) p f.0 f.1
  quotient_within (negsuc zero) q z m = by t.unsigned refl
    where
      by : (s : Bool) → t.unsigned ≡ s → IsTrue (in_range t (int_div x (negsuc 0)))
      by true u = absurd (let b = unsigned_bounds t (negsuc zero) k q u in omega arith)
      by false u = by_minus_one u (λ e. m (u, e, refl))
  quotient_within (negsuc (suc b)) q z m = by t.unsigned refl
    where
      by : (s : Bool) → t.unsigned ≡ s → IsTrue (in_range t (int_div x (negsuc (suc b))))
      by true u = absurd (let c = unsigned_bounds t (negsuc (suc b)) k q u in omega arith)
      by false u =
          let c = signed_bounds t x k p u in
          let h = backward x (suc b) in
          let f = halved x b in
          let two = half_at_least t.width (signed_width t k u) in
          signed_within t x k p u (int_div x (negsuc (suc b))) (omega (arith, f, h.0, h.1, c.0, c.1, two, parts x)) (omega (arith, f, h.0, h.1, c.0, c.1, parts x))

-- the size of the least value of a signed type is no value of it
top_outside : (t : Ty) → t.unsigned ≡ false → in_range t (pos (2 ^ (t.width - 1))) ≡ false
top_outside t u = by (in_range t (pos (2 ^ (t.width - 1)))) refl
  where
    some : 0 < 2 ^ (t.width - 1)
    some = pow_pos (t.width - 1)

    no : (s : Bool) → s ≡ false → pos (2 ^ (t.width - 1)) ≤ℤ cond s (pos (2 ^ t.width - 1)) (pos (2 ^ (t.width - 1) - 1)) → ⊥
    no true e f = cc
    no false e f = omega (arith, ints, f, some)

    by : (b : Bool) → in_range t (pos (2 ^ (t.width - 1))) ≡ b → b ≡ false
    by true e = absurd (no t.unsigned u (bounds t (pos (2 ^ (t.width - 1))) e).1)
    by false e = refl

turned : (n : ℕ) → int_div (neg_ℤ (pos n)) (negsuc 0) ≡ pos n
turned zero = refl
turned (suc n) = ap pos (let e = div-add-mod' (suc n) 1 in omega arith)

module _ (t : Ty) (u : t.unsigned ≡ false) (f : ℤ → ℤ) (e : f (neg_ℤ (pos (2 ^ (t.width - 1)))) ≡ pos (2 ^ (t.width - 1))) where
  -- what gives the size of the least value leaves the range there
  leaves : in_range t (f (least t)) ≡ false
  leaves = subst (λ z. in_range t z ≡ false) (sym (ap f (least_signed t u) ∙ e)) (top_outside t u)

outside : (t : Ty) → t.unsigned ≡ false → in_range t (int_div (least t) (negsuc 0)) ≡ false
outside t u = leaves t u (λ x. int_div x (negsuc 0)) (turned (2 ^ (t.width - 1)))

opposite : (n : ℕ) → neg_ℤ (neg_ℤ (pos n)) ≡ pos n
opposite n = omega (arith, ints)

size : (n : ℕ) → pos (unsigned_abs (neg_ℤ (pos n))) ≡ pos n
size n = omega (arith, ints)

-- of a signed type only the least value has no negative, and no size
module _ (t : Ty) (k : IsType t) (x : ℤ) (p : IsTrue (in_range t x)) (u : t.unsigned ≡ false) where
  far : (x ≡ least t → ⊥) → down x ≡ up x + 2 ^ (t.width - 1) → ⊥
  far other e = other (let l = least_signed t u in omega (arith, ints, e, l))

  negative_within : (x ≡ least t → ⊥) → IsTrue (in_range t (neg_ℤ x))
  negative_within other = let b = signed_bounds t x k p u in let o = far other in signed_within t x k p u (neg_ℤ x) (omega (arith, ints, b.0, b.1, o)) (omega (arith, ints, b.0, b.1, o))

  size_within : (x ≡ least t → ⊥) → IsTrue (in_range t (pos (unsigned_abs x)))
  size_within other = let b = signed_bounds t x k p u in let o = far other in signed_within t x k p u (pos (unsigned_abs x)) (omega (arith, ints, b.0, b.1, o, parts x)) (omega (arith, ints, b.0, b.1, o, parts x))

  pub negative_is : in_range t (neg_ℤ x) ≡ not (int_same x (least t))
  negative_is = by (int_same x (least t)) refl
    where
      by : (s : Bool) → int_same x (least t) ≡ s → in_range t (neg_ℤ x) ≡ not s
      by true e = subst (λ z. in_range t (neg_ℤ z) ≡ false) (sym (same_out x (least t) e)) (leaves t u neg_ℤ (opposite (2 ^ (t.width - 1))))
      by false e = negative_within (apart x (least t) e)

  pub size_is : in_range t (pos (unsigned_abs x)) ≡ not (int_same x (least t))
  size_is = by (int_same x (least t)) refl
    where
      by : (s : Bool) → int_same x (least t) ≡ s → in_range t (pos (unsigned_abs x)) ≡ not s
      by true e = subst (λ z. in_range t (pos (unsigned_abs z)) ≡ false) (sym (same_out x (least t) e)) (leaves t u (λ z. pos (unsigned_abs z)) (size (2 ^ (t.width - 1))))
      by false e = size_within (apart x (least t) e)

pub divides_is : (t : Ty) (x y : ℤ) → IsType t → IsTrue (in_range t x) → IsTrue (in_range t y) → divides t x y ≡ (not (int_same y (pos 0)) && not (least_by_minus_one t x y))
divides_is t x y k p q = by (int_same y (pos 0)) refl
  where
    exception : (c : Bool) → least_by_minus_one t x y ≡ c → (y ≡ pos 0 → ⊥) → in_range t (int_div x y) ≡ not c
    exception true e z =
        let h = and_parts (not t.unsigned) (int_same x (least t) && int_same y (negsuc 0)) e in
        let g = and_parts (int_same x (least t)) (int_same y (negsuc 0)) h.1 in
        subst (λ v. in_range t (int_div v y) ≡ false) (sym (same_out x (least t) g.0))
        (subst (λ v. in_range t (int_div (least t) v) ≡ false) (sym (same_out y (negsuc 0) g.1)) (outside t (off t.unsigned h.0)))
      where
        off : (b : Bool) → not b ≡ true → b ≡ false
        off true f = cc
        off false f = refl
    exception false e z = quotient_within t k x p y q z (λ m. let all : least_by_minus_one t x y ≡ true = and_from (not t.unsigned) (int_same x (least t) && int_same y (negsuc 0)) (ap not m.0) (and_from (int_same x (least t)) (int_same y (negsuc 0)) (same_in x (least t) m.1) (same_in y (negsuc 0) m.2)) in clash e all)
      where
        clash : {b : Bool} → b ≡ false → b ≡ true → ⊥
        clash f g = cc

    by : (z : Bool) → int_same y (pos 0) ≡ z → (not z && in_range t (int_div x y)) ≡ (not z && not (least_by_minus_one t x y))
    by true e = refl
    by false e = exception (least_by_minus_one t x y) refl (apart y (pos 0) e)
