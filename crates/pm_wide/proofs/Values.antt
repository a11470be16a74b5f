-- What the value of an operation is as a whole number.
use Rattle.std.proofs.Common.{◌≡◌, ℕ, suc, ◌-◌, ◌^◌, ◌≤◌, ◌<◌, ◌==◌, Bool, true, false, not, cond, ◌&&◌, ◌||◌, [], ◌∷◌, Some, None, refl, sym, ap, subst, ◌∙◌, ◌⊎◌, inl, inr, arith}
use Rattle.std.specs.Prelude.{ℤ, pos, negsuc, neg_ℤ, ◌-ℤ◌, ◌*ℤ◌, ◌≤ℤ◌, IsTrue}
use Rattle.std.specs.Int.{int_div_euclid, int_min, int_max}
use Rattle.std.specs.Int.RustNames.{int_lt, int_div, int_rem, unsigned_abs}
use Rattle.std.proofs.lemmas.Bool.{and_parts}
use Rattle.std.proofs.lemmas.Bool.Decides.{nat_tests}
use Rattle.std.proofs.Math.Nat.{mod-le, div-le_self}
use borrow.Author.Differences.{up, down}
use borrow.Author.Tests.{eqb-true}
use Rattle.std.proofs.lemmas.Int.{ints}
use Rattle.std.proofs.lemmas.Nat.{pow_below}
use Rattle.pm_ops.specs.declared.code.Code.TheVariants.{Convert, TruncDiv, TruncMod, Absu, BitNot, Lshift, Rshift, Min, Max}
use Rattle.pm_wide.specs.Congruence.{Congruent}
use Rattle.pm_wide.specs.Types.{Ty, Word, IsType, IsWord, value, word, in_range}
use Rattle.pm_wide.specs.Operations.{exact, reduced, divides, shifts, operation_value}
use Rattle.pm_wide.specs.Typing.{well_typed_operation}
use Rattle.pm_wide.proofs.Congruence.{same, turned, joined, differences}
use Rattle.pm_wide.proofs.Words.{value_congruent, value-word, value-word_congruent, value_in_range, bounds, within}

-- ---- types

pub width_positive : (t : Ty) → IsType t → 0 < t.width
width_positive t h = grind (arith, nat_tests)

pub width_small : (t : Ty) → IsType t → t.width ≤ 128
width_small t h = grind (arith, nat_tests)

-- ---- results that are exact, and reduced ones

pub exact_cases : (t : Ty) (z : ℤ) (r : Word) → exact t z ≡ Some r → (IsTrue (t.unsigned || in_range t z)) × (r ≡ word t z)
exact_cases t z r = by (t.unsigned || in_range t z)
  where
    by : (b : Bool) → cond b (Some (word t z)) None ≡ Some r → (b ≡ true) × (r ≡ word t z)
    by true e = (refl, cc)
    by false e = cc

pub exact_congruent : (t : Ty) (z : ℤ) (r : Word) → exact t z ≡ Some r → Congruent t.width (value r) z
exact_congruent t z r e = subst (λ w. Congruent t.width (value w) z) (sym (exact_cases t z r e).1) (value-word_congruent t z)

second : (x y : Bool) → x ≡ false → (x || y) ≡ true → y ≡ true
second true y e h = cc
second false y e h = h

-- a result of a signed type is the exact one
pub exact_signed : (t : Ty) (z : ℤ) (r : Word) → IsType t → t.unsigned ≡ false → exact t z ≡ Some r → (IsTrue (in_range t z)) × (value r ≡ z)
exact_signed t z r k s e =
    let c = exact_cases t z r e in
    let h : IsTrue (in_range t z) = second t.unsigned (in_range t z) s c.0 in
    (h, ap value c.1 ∙ value-word t z (width_positive t k) h)

-- and the exact one wherever that is in range
pub exact_within : (t : Ty) (z : ℤ) → IsTrue (in_range t z) → exact t z ≡ Some (word t z)
exact_within t z h = by t.unsigned (in_range t z) h
  where
    by : (u b : Bool) → b ≡ true → cond (u || b) (Some (word t z)) None ≡ Some (word t z)
    by true b e = refl
    by false true e = refl
    by false false e = cc

pub reduced_congruent : (t : Ty) (z : ℤ) (r : Word) → reduced t z ≡ Some r → Congruent t.width (value r) z
reduced_congruent t z r e = let is : word t z ≡ r = cc in subst (λ w. Congruent t.width (value w) z) is (value-word_congruent t z)

pub reduced_within : (t : Ty) (z : ℤ) (r : Word) → IsType t → IsTrue (in_range t z) → reduced t z ≡ Some r → value r ≡ z
reduced_within t z r k h e = let is : word t z ≡ r = cc in ap value (sym is) ∙ value-word t z (width_positive t k) h

-- ---- numbers between 0 and a value are values

parts : (x : ℤ) → (up x ≡ 0) ⊎ (down x ≡ 0)
parts (pos n) = inr refl
parts (negsuc n) = inl refl

pub between_in_range : (t : Ty) (z y : ℤ) → IsTrue (in_range t z) → up y ≤ up z → down y ≤ down z → IsTrue (in_range t y)
between_in_range t z y h p q = let b = bounds t z h in by t.unsigned b.0 b.1 (λ i j. within t y i j)
  where
    by : (u : Bool) → cond u (pos 0) (neg_ℤ (pos (2 ^ (t.width - 1)))) ≤ℤ z → z ≤ℤ cond u (pos (2 ^ t.width - 1)) (pos (2 ^ (t.width - 1) - 1))
        → (cond u (pos 0) (neg_ℤ (pos (2 ^ (t.width - 1)))) ≤ℤ y → y ≤ℤ cond u (pos (2 ^ t.width - 1)) (pos (2 ^ (t.width - 1) - 1)) → IsTrue (in_range t y)) → IsTrue (in_range t y)
    by true i j f = f (omega (arith, ints, parts z, parts y)) (omega (arith, ints, parts z, parts y))
    by false i j f = f (omega (arith, ints, parts z, parts y)) (omega (arith, ints, parts z, parts y))

remainder_between : (x y : ℤ) → (up (int_rem x y) ≤ up x) × (down (int_rem x y) ≤ down x)
remainder_between (pos a) y = (mod-le a (unsigned_abs y), omega arith)
remainder_between (negsuc a) y = omega (arith, ints, mod-le (suc a) (unsigned_abs y))

floor_between : (x : ℤ) (d : ℕ) → (up (int_div_euclid x (pos d)) ≤ up x) × (down (int_div_euclid x (pos d)) ≤ down x)
floor_between (pos a) d = (div-le_self a d, omega arith)
floor_between (negsuc a) d = omega (arith, div-le_self a d)

-- ---- operations

word_in_range : (t : Ty) (a : Word) → IsWord a → a.ty ≡ t → IsTrue (in_range t (value a))
word_in_range t a k s = subst (λ x. IsTrue (in_range x (value a))) s (value_in_range a.ty a.bits (width_positive a.ty k.1) k.0)

of_type : (t : Ty) (a : Word) → IsWord a → a.ty ≡ t → IsType t
of_type t a k s = subst IsType s k.1

pub quotient_is : (t : Ty) (a b r : Word) → IsType t → operation_value TruncDiv t (a ∷ b ∷ []) ≡ Some r → value r ≡ int_div (value a) (value b)
unfolding operation_value
quotient_is t a b r k e = by (divides t (value a) (value b)) refl e
  where
    by : (d : Bool) → divides t (value a) (value b) ≡ d → cond d (reduced t (int_div (value a) (value b))) None ≡ Some r → value r ≡ int_div (value a) (value b)
    by true h f = reduced_within t _ r k (and_parts _ _ h).1 f
    by false h f = cc

pub remainder_is : (t : Ty) (a b r : Word) → IsWord a → a.ty ≡ t → operation_value TruncMod t (a ∷ b ∷ []) ≡ Some r → value r ≡ int_rem (value a) (value b)
unfolding operation_value
remainder_is t a b r k s e = by (divides t (value a) (value b)) e
  where
    near : (up (int_rem (value a) (value b)) ≤ up (value a)) × (down (int_rem (value a) (value b)) ≤ down (value a))
    near = remainder_between (value a) (value b)

    by : (d : Bool) → cond d (reduced t (int_rem (value a) (value b))) None ≡ Some r → value r ≡ int_rem (value a) (value b)
    by true f = reduced_within t _ r (of_type t a k s) (between_in_range t (value a) _ (word_in_range t a k s) near.0 near.1) f
    by false f = cc

pub floor_is : (t : Ty) (a b r : Word) → IsWord a → a.ty ≡ t → operation_value Rshift t (a ∷ b ∷ []) ≡ Some r → value r ≡ int_div_euclid (value a) (pos (2 ^ unsigned_abs (value b)))
unfolding operation_value
floor_is t a b r k s e = by (shifts t (value b)) e
  where
    near : (up (int_div_euclid (value a) (pos (2 ^ unsigned_abs (value b)))) ≤ up (value a)) × (down (int_div_euclid (value a) (pos (2 ^ unsigned_abs (value b)))) ≤ down (value a))
    near = floor_between (value a) (2 ^ unsigned_abs (value b))

    by : (d : Bool) → cond d (reduced t (int_div_euclid (value a) (pos (2 ^ unsigned_abs (value b))))) None ≡ Some r → value r ≡ int_div_euclid (value a) (pos (2 ^ unsigned_abs (value b)))
    by true f = reduced_within t _ r (of_type t a k s) (between_in_range t (value a) _ (word_in_range t a k s) near.0 near.1) f
    by false f = cc

pub shifted_congruent : (t : Ty) (a b r : Word) → operation_value Lshift t (a ∷ b ∷ []) ≡ Some r → Congruent t.width (value r) (value a *ℤ pos (2 ^ unsigned_abs (value b)))
unfolding operation_value
shifted_congruent t a b r e = by (shifts t (value b)) e
  where
    by : (d : Bool) → cond d (reduced t (value a *ℤ pos (2 ^ unsigned_abs (value b)))) None ≡ Some r → Congruent t.width (value r) (value a *ℤ pos (2 ^ unsigned_abs (value b)))
    by true f = reduced_congruent t _ r f
    by false f = cc

pub converted_congruent : (t : Ty) (a r : Word) → operation_value Convert t (a ∷ []) ≡ Some r → Congruent t.width (value r) (value a)
unfolding operation_value
converted_congruent t a r e = reduced_congruent t _ r e

pub converted_is : (t : Ty) (a r : Word) → IsType t → IsTrue (in_range t (value a)) → operation_value Convert t (a ∷ []) ≡ Some r → value r ≡ value a
unfolding operation_value
converted_is t a r k h e = reduced_within t _ r k h e

pub least_is : (t : Ty) (a b r : Word) → IsWord a → IsWord b → a.ty ≡ t → b.ty ≡ t → operation_value Min t (a ∷ b ∷ []) ≡ Some r → value r ≡ int_min (value a) (value b)
unfolding operation_value
least_is t a b r j k p q e = reduced_within t _ r (of_type t a j p) (by (int_lt (value b) (value a))) e
  where
    by : (c : Bool) → IsTrue (in_range t (cond c (value b) (value a)))
    by true = word_in_range t b k q
    by false = word_in_range t a j p

pub greatest_is : (t : Ty) (a b r : Word) → IsWord a → IsWord b → a.ty ≡ t → b.ty ≡ t → operation_value Max t (a ∷ b ∷ []) ≡ Some r → value r ≡ int_max (value a) (value b)
unfolding operation_value
greatest_is t a b r j k p q e = reduced_within t _ r (of_type t a j p) (by (int_lt (value b) (value a))) e
  where
    by : (c : Bool) → IsTrue (in_range t (cond c (value a) (value b)))
    by true = word_in_range t a j p
    by false = word_in_range t b k q

-- the size of a value of a signed type is a value of the unsigned type of its width
size_in_range : (t s : Ty) (z : ℤ) → t.unsigned ≡ true → s.unsigned ≡ false → s.width ≡ t.width → 0 < t.width → IsTrue (in_range s z) → IsTrue (in_range t (pos (unsigned_abs z)))
size_in_range t s z u v w p h = let b = bounds s z h in by t.unsigned s.unsigned u v b.0 b.1 (λ i j. within t _ i j)
  where
    less : 2 ^ (s.width - 1) < 2 ^ t.width
    less = pow_below (s.width - 1) t.width (omega arith)

    by : (x y : Bool) → x ≡ true → y ≡ false → cond y (pos 0) (neg_ℤ (pos (2 ^ (s.width - 1)))) ≤ℤ z → z ≤ℤ cond y (pos (2 ^ s.width - 1)) (pos (2 ^ (s.width - 1) - 1))
        → (cond x (pos 0) (neg_ℤ (pos (2 ^ (t.width - 1)))) ≤ℤ pos (unsigned_abs z) → pos (unsigned_abs z) ≤ℤ cond x (pos (2 ^ t.width - 1)) (pos (2 ^ (t.width - 1) - 1)) → IsTrue (in_range t (pos (unsigned_abs z)))) → IsTrue (in_range t (pos (unsigned_abs z)))
    by true false e g i j f = f (omega (arith, ints)) (omega (arith, ints, less))
    by false y e g i j f = cc
    by true true e g i j f = cc

pub size_is : (t : Ty) (a r : Word) → IsType t → IsWord a → t.unsigned ≡ true → a.ty.unsigned ≡ false → a.ty.width ≡ t.width → operation_value Absu t (a ∷ []) ≡ Some r → value r ≡ pos (unsigned_abs (value a))
unfolding operation_value
size_is t a r j k u v w e = reduced_within t _ r j (size_in_range t a.ty (value a) u v w (width_positive t j) (word_in_range a.ty a k refl)) e

-- the complement of a word is congruent to -1 less its value
pub complement_congruent : (t : Ty) (a r : Word) → IsWord a → a.ty ≡ t → operation_value BitNot t (a ∷ []) ≡ Some r → Congruent t.width (value r) (negsuc 0 -ℤ value a)
unfolding operation_value
complement_congruent t a r k s e =
    let n = 2 ^ t.width - 1 - a.bits in
    let is : record { bits = n; ty = t } ≡ r = cc in
    let below : a.bits < 2 ^ t.width = subst (λ x. a.bits < 2 ^ x.width) s k.0 in
    let of_word : Congruent t.width (pos n) (negsuc 0 -ℤ pos a.bits) = record { multiple = pos 1; differ = omega (arith, ints) } in
    let of_value : Congruent t.width (pos a.bits) (value a) = subst (λ x. Congruent x.width (pos a.bits) (value a)) s (turned a.ty.width _ _ (value_congruent a.ty a.bits)) in
    subst (λ x. Congruent t.width (value x) (negsuc 0 -ℤ value a)) is
    (joined t.width _ (pos n) _ (value_congruent t n) (joined t.width _ (negsuc 0 -ℤ pos a.bits) _ of_word (differences t.width _ _ _ _ (same t.width (negsuc 0)) of_value)))

pub size_well_typed : (t : Ty) (a r : Word) → IsType t → IsWord a → IsTrue (well_typed_operation Absu t (a.ty ∷ [])) → operation_value Absu t (a ∷ []) ≡ Some r → value r ≡ pos (unsigned_abs (value a))
unfolding well_typed_operation
size_well_typed t a r j k h e =
    let p = and_parts (t.unsigned && not a.ty.unsigned) (a.ty.width == t.width) h in
    let q = and_parts t.unsigned (not a.ty.unsigned) p.0 in
    size_is t a r j k q.0 (signed a.ty.unsigned q.1) (eqb-true a.ty.width t.width p.1) e
  where
    signed : (b : Bool) → not b ≡ true → b ≡ false
    signed true f = cc
    signed false f = refl
