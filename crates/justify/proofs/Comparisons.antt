-- A comparison of values goes by their difference.
use Rattle.std.proofs.Common.{◌≡◌, ℕ, ◌-◌, ◌^◌, ◌%◌, ◌<◌, ◌==◌, Bool, true, false, not, cond, ◌&&◌, ◌||◌, Option, Some, None, [], ◌∷◌, refl, sym, ap, subst, ◌∙◌, arith, eq-eqb}
use Rattle.std.specs.Prelude.{ℤ, pos, neg_ℤ, ◌+ℤ◌, ◌-ℤ◌, ◌*ℤ◌, IsTrue, nat_lt, ◌↔◌, Result, Ok}
use Rattle.std.specs.Cmp.{both_ways}
use Rattle.std.specs.Int.RustNames.{int_lt, int_le}
use Rattle.std.proofs.lemmas.Bool.{and_from}
use Rattle.std.proofs.lemmas.Bool.Decides.{nat_tests}
use Rattle.std.proofs.lemmas.Int.{ints}
use Rattle.std.proofs.lemmas.Nat.{pow_pos}
use Rattle.std.proofs.Math.Nat.{zero-mod}
use Rattle.std.specs.Option.{ok_or}
use Rattle.pm_ops.specs.Codes.{is_comparison_code, swapped_code}
use Rattle.pm_ops.specs.declared.code.Code.{Code}
use Rattle.pm_ops.specs.declared.code.Code.TheVariants.{Eq, Ne, Lt, Le, Gt, Ge}
use Rattle.pm_wide.specs.Congruence.{Congruent}
use Rattle.pm_wide.specs.Operations.{int_same, truth, operation_value}
use Rattle.pm_wide.specs.declared.undefined.Undefined.{Undefined}
use Rattle.pm_wide.specs.Types.{Ty, Word, IsType, IsWord, value, value_of, same_type, in_range, bool_type, unsigned_int128_type}
use Rattle.pm_wide.specs.Typing.{well_typed_operation}
use Rattle.pm_wide.proofs.Whole.{neg-mul}
use Rattle.pm_wide.proofs.Words.{one_value, word-pos}
use Rattle.ring_forms.proofs.CleanForms.{small_residue, one_number}
use Rattle.ring_forms.proofs.SameSums.{same_out, same_in}
use Rattle.justify.specs.Order.{is_equality, told}

-- ---- tests of whole numbers

same_difference : (x y : ℤ) → int_same x y ≡ int_same (x -ℤ y) (pos 0)
same_difference x y =
    both_ways (int_same x y) (int_same (x -ℤ y) (pos 0)) (λ e. same_in (x -ℤ y) (pos 0) (let is = same_out x y e in omega (arith, ints, is)))
    (λ e. same_in x y (let is = same_out (x -ℤ y) (pos 0) e in omega (arith, ints, is)))

less_difference : (x y : ℤ) → int_lt x y ≡ int_lt (x -ℤ y) (pos 0)
less_difference x y = by (int_lt x y) refl
  where
    by : (t : Bool) → int_lt x y ≡ t → t ≡ int_lt (x -ℤ y) (pos 0)
    by true e = omega (arith, ints)
    by false e = omega (arith, ints)

at_most_difference : (x y : ℤ) → int_le x y ≡ int_le (x -ℤ y) (pos 0)
at_most_difference x y = by (int_le x y) refl
  where
    by : (t : Bool) → int_le x y ≡ t → t ≡ int_le (x -ℤ y) (pos 0)
    by true e = omega (arith, ints)
    by false e = omega (arith, ints)

above_difference : (x y : ℤ) → int_lt y x ≡ int_lt (pos 0) (x -ℤ y)
above_difference x y = by (int_lt y x) refl
  where
    by : (t : Bool) → int_lt y x ≡ t → t ≡ int_lt (pos 0) (x -ℤ y)
    by true e = omega (arith, ints)
    by false e = omega (arith, ints)

at_least_difference : (x y : ℤ) → int_le y x ≡ int_le (pos 0) (x -ℤ y)
at_least_difference x y = by (int_le y x) refl
  where
    by : (t : Bool) → int_le y x ≡ t → t ≡ int_le (pos 0) (x -ℤ y)
    by true e = omega (arith, ints)
    by false e = omega (arith, ints)

-- ---- comparisons

pub comparison_is : (code : Code) → IsTrue (is_comparison_code code) → (ty : Ty) (x y : Word) → operation_value code ty (x ∷ y ∷ []) ≡ truth (told code (value x -ℤ value y))
unfolding operation_value
comparison_is Eq h ty x y = ap truth (same_difference (value x) (value y))
comparison_is Ne h ty x y = ap (λ b. truth (not b)) (same_difference (value x) (value y))
comparison_is Lt h ty x y = ap truth (less_difference (value x) (value y))
comparison_is Le h ty x y = ap truth (at_most_difference (value x) (value y))
comparison_is Gt h ty x y = ap truth (above_difference (value x) (value y))
comparison_is Ge h ty x y = ap truth (at_least_difference (value x) (value y))
comparison_is _ h ty x y = cc

one_sign : (b : Bool) → cond b b (not b) ≡ true
one_sign true = refl
one_sign false = refl

itself : (t : Ty) → same_type t t ≡ true
itself t = and_from (t.width == t.width) (cond t.unsigned t.unsigned (not t.unsigned)) (eq-eqb t.width t.width refl) (one_sign t.unsigned)

pub comparison_typed : (code : Code) → IsTrue (is_comparison_code code) → (t : Ty) → IsTrue (well_typed_operation code bool_type (t ∷ t ∷ []))
unfolding well_typed_operation
comparison_typed Eq h t = and_from (same_type t t) true (itself t) refl
comparison_typed Ne h t = and_from (same_type t t) true (itself t) refl
comparison_typed Lt h t = and_from (same_type t t) true (itself t) refl
comparison_typed Le h t = and_from (same_type t t) true (itself t) refl
comparison_typed Gt h t = and_from (same_type t t) true (itself t) refl
comparison_typed Ge h t = and_from (same_type t t) true (itself t) refl
comparison_typed _ h t = cc

zero_value : (t : Ty) → value_of t (0 % 2 ^ t.width) ≡ pos 0
zero_value t = ap (value_of t) (zero-mod (2 ^ t.width)) ∙ (λ i. cond (t.unsigned || small i) (pos 0) (pos 0 -ℤ pos (2 ^ t.width))) ∙ by t.unsigned
  where
    small : nat_lt 0 (2 ^ (t.width - 1)) ≡ true
    small = let some = pow_pos (t.width - 1) in grind (arith, nat_tests, some)

    by : (u : Bool) → cond (u || true) (pos 0) (pos 0 -ℤ pos (2 ^ t.width)) ≡ pos 0
    by true = refl
    by false = refl

-- a number is compared with 0 as its value is
pub compared_with_zero : (code : Code) → IsTrue (is_comparison_code code) → (ty : Ty) (w zero : Word) → zero ≡ record { bits = 0 % 2 ^ w.ty.width; ty = w.ty } → operation_value code ty (w ∷ zero ∷ []) ≡ truth (told code (value w))
compared_with_zero code h ty w zero e =
    comparison_is code h ty w zero ∙ (λ i. truth (told code (value w -ℤ value (e i)))) ∙ (λ i. truth (told code (value w -ℤ zero_value w.ty i))) ∙ ap (λ z. truth (told code z)) (ending (value w))
  where
    ending : (z : ℤ) → z -ℤ pos 0 ≡ z
    ending z = omega (arith, ints)

some_of : (o : Option Word) (u : Undefined) (word : Word) → ok_or o u ≡ Ok word → o ≡ Some word
some_of None u word e = cc
some_of (Some x) u word e = let is : x ≡ word = cc in ap Some is

pub tells_is : (code : Code) → IsTrue (is_comparison_code code) → (ty : Ty) (w zero word : Word) (u : Undefined) → zero ≡ record { bits = 0 % 2 ^ w.ty.width; ty = w.ty }
    → (r : Result Word Undefined) → r ≡ ok_or (operation_value code ty (w ∷ zero ∷ [])) u → (b : Bool) → (IsTrue b ↔ (r ≡ Ok word)) → IsTrue b ↔ (truth (told code (value w)) ≡ Some word)
tells_is code h ty w zero word u z r e b g =
    let is = compared_with_zero code h ty w zero z in (
      (λ t. sym is ∙ some_of (operation_value code ty (w ∷ zero ∷ [])) u word (sym e ∙ g.0 t)),
      (λ t. g.1 (e ∙ ap (λ o. ok_or o u) (is ∙ t))),
    )

pub plain_value : (n : ℕ) → n < 2 ^ 128 → value (record { bits = n % 2 ^ 128; ty = unsigned_int128_type }) ≡ pos n
plain_value n h = ap pos (sym (word-pos unsigned_int128_type n) ∙ small_residue 128 n h)

-- ---- what the swapped comparison tells of the opposite difference

pub told_swapped : (code : Code) → IsTrue (is_comparison_code code) → (x y : ℤ) → told (swapped_code code) (y -ℤ x) ≡ told code (x -ℤ y)
told_swapped Eq h x y = sym (same_difference y x) ∙ turned x y ∙ same_difference x y
  where
    turned : (a b : ℤ) → int_same b a ≡ int_same a b
    turned a b = both_ways (int_same b a) (int_same a b) (λ e. same_in a b (sym (same_out b a e))) (λ e. same_in b a (sym (same_out a b e)))
told_swapped Ne h x y = ap not (sym (same_difference y x) ∙ turned x y ∙ same_difference x y)
  where
    turned : (a b : ℤ) → int_same b a ≡ int_same a b
    turned a b = both_ways (int_same b a) (int_same a b) (λ e. same_in a b (sym (same_out b a e))) (λ e. same_in b a (sym (same_out a b e)))
told_swapped Lt h x y = sym (above_difference y x) ∙ less_difference x y
told_swapped Le h x y = sym (at_least_difference y x) ∙ at_most_difference x y
told_swapped Gt h x y = sym (less_difference y x) ∙ above_difference x y
told_swapped Ge h x y = sym (at_most_difference y x) ∙ at_least_difference x y
told_swapped _ h x y = cc

-- ---- equalities go by residues

module _ (t : Ty) (some : 0 < t.width) (x y : ℤ) (hx : IsTrue (in_range t x)) (hy : IsTrue (in_range t y)) where
  -- values of a type whose difference is a multiple of 2 to its width are one
  pub one_if : Congruent t.width (x -ℤ y) (pos 0) → x ≡ y
  one_if c = one_value t x y some hx hy (record { multiple = c.multiple; differ = moved x y (c.multiple *ℤ pos (2 ^ t.width)) c.differ })
    where
      moved : (a b k : ℤ) → a -ℤ b ≡ pos 0 +ℤ k → a ≡ b +ℤ k
      moved a b k e = omega (arith, ints, e)

  told_by : (code : Code) → IsTrue (is_equality code) → (z w : ℤ) → int_same z (pos 0) ≡ int_same w (pos 0) → told code z ≡ told code w
  told_by Eq h z w e = e
  told_by Ne h z w e = ap not e
  told_by _ h z w e = cc

  -- an equality tells the same of congruent differences
  pub told_congruent : (code : Code) → IsTrue (is_equality code) → (z w : ℤ) → IsTrue (in_range t z) → IsTrue (in_range t w) → Congruent t.width (x -ℤ y) (z -ℤ w) → told code (x -ℤ y) ≡ told code (z -ℤ w)
  told_congruent code h z w hz hw c = told_by code h (x -ℤ y) (z -ℤ w) (both_ways (int_same (x -ℤ y) (pos 0)) (int_same (z -ℤ w) (pos 0)) into back)
    where
      into : int_same (x -ℤ y) (pos 0) ≡ true → int_same (z -ℤ w) (pos 0) ≡ true
      into e =
          let zero : x -ℤ y ≡ pos 0 = same_out (x -ℤ y) (pos 0) e in
          let is : z ≡ w = one_value t z w some hz hw (difference (subst (λ d. Congruent t.width d (z -ℤ w)) zero c)) in
          same_in (z -ℤ w) (pos 0) (omega (arith, ints, is))
        where
          difference : Congruent t.width (pos 0) (z -ℤ w) → Congruent t.width z w
          difference g = record { multiple = neg_ℤ g.multiple; differ = moved z w (g.multiple *ℤ pos (2 ^ t.width)) g.differ ∙ ap (λ k. w +ℤ k) (sym (neg-mul g.multiple (pos (2 ^ t.width)))) }
            where
              moved : (a b k : ℤ) → pos 0 ≡ (a -ℤ b) +ℤ k → a ≡ b +ℤ neg_ℤ k
              moved a b k e = omega (arith, ints, e)

      back : int_same (z -ℤ w) (pos 0) ≡ true → int_same (x -ℤ y) (pos 0) ≡ true
      back e =
          let zero : z -ℤ w ≡ pos 0 = same_out (z -ℤ w) (pos 0) e in
          let is : x ≡ y = one_if (subst (Congruent t.width (x -ℤ y)) zero c) in
          same_in (x -ℤ y) (pos 0) (omega (arith, ints, is))

  -- and of a difference that is a number below 2 to the width
  pub told_number : (code : Code) → IsTrue (is_equality code) → (n : ℕ) → n < 2 ^ t.width → Congruent t.width (x -ℤ y) (pos n) → told code (x -ℤ y) ≡ told code (pos n)
  told_number code h n small c = told_by code h (x -ℤ y) (pos n) (both_ways (int_same (x -ℤ y) (pos 0)) (int_same (pos n) (pos 0)) into back)
    where
      into : int_same (x -ℤ y) (pos 0) ≡ true → int_same (pos n) (pos 0) ≡ true
      into e =
          let zero : x -ℤ y ≡ pos 0 = same_out (x -ℤ y) (pos 0) e in
          let is : 0 ≡ n = one_number t.width 0 n (pow_pos t.width) small (subst (λ d. Congruent t.width d (pos n)) zero c) in
          same_in (pos n) (pos 0) (ap pos (sym is))

      back : int_same (pos n) (pos 0) ≡ true → int_same (x -ℤ y) (pos 0) ≡ true
      back e =
          let zero : pos n ≡ pos 0 = same_out (pos n) (pos 0) e in
          let is : x ≡ y = one_if (subst (Congruent t.width (x -ℤ y)) zero c) in
          same_in (x -ℤ y) (pos 0) (omega (arith, ints, is))
