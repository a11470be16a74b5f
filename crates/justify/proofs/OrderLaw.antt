-- What is related by order has one value.
use Rattle.std.proofs.Common.{◌≡◌, ℕ, ◌<◌, ◌^◌, Bool, true, false, cond, ◌⊎◌, inl, inr, Option, Some, None, [], ◌∷◌, refl, sym, ap, subst, ◌∙◌}
use Rattle.std.specs.Prelude.{ℤ, pos, ◌-ℤ◌, IsTrue}
use Rattle.std.proofs.lemmas.Bool.{and_parts}
use Rattle.pm_ops.specs.Codes.{is_comparison_code, swapped_code}
use Rattle.pm_ops.specs.declared.code.Code.{Code}
use Rattle.pm_ops.specs.declared.code.Code.TheVariants.{Eq, Ne, Lt, Le, Gt, Ge}
use Rattle.pm_wide.specs.Operations.{truth, operation_value}
use Rattle.pm_wide.specs.Residues.{residue}
use Rattle.pm_wide.specs.Types.{Ty, Word, IsType, value, in_range, same_type, bool_type}
use Rattle.pm_wide.specs.Typing.{well_typed_operation}
use Rattle.pm_wide.proofs.Residues.{residue-below}
use Rattle.pm_wide.proofs.Results.{same_type_is}
use Rattle.pm_wide.proofs.Values.{width_positive}
use Rattle.pm_wide.proofs.Words.{value_in_range}
use Rattle.pm_term.specs.Environments.{GivesWords}
use Rattle.pm_term.specs.Terms.{with_value, operation_on, term_value, term_values}
use Rattle.pm_term.specs.Trees.{Tree, name, constant, node, Trees, nil, cons, type_of, types_of, IsWellTyped}
use Rattle.pm_term.proofs.RefiningLaws.{on_values, both}
use Rattle.pm_term.proofs.TermLaws.{values_are_words}
use Rattle.ring_forms.specs.Differences.{AreOneExactly, AreOneModulo, exact_number, ring_number, ring_number_by, ring_difference, same_among, number_alone}
use Rattle.ring_forms.specs.RingForms.{have_forms, same_form}
use Rattle.ring_forms.specs.Sums.{coefficient}
use Rattle.ring_forms.proofs.DifferenceLaw.{listed, if_true, one_difference, number_difference}
use Rattle.ring_forms.proofs.RingDifferenceLaw.{well_typed_type, one_pair, number_pair}
use Rattle.justify.specs.Order.{turned, is_equality, told, HasExactDifference, HasRingDifference, IsLikeComparison, IsToldExactly, IsToldModulo, IsToldConstant, IsRelatedAt, HasRelatedOperands, AreRelatedByOrder}
use Rattle.justify.proofs.Comparisons.{comparison_is, told_swapped, told_congruent, told_number}

pub equality_compares : (code : Code) → IsTrue (is_equality code) → IsTrue (is_comparison_code code)
equality_compares Eq h = refl
equality_compares Ne h = refl
equality_compares _ h = cc

swapped_compares : (code : Code) → IsTrue (is_comparison_code code) → IsTrue (is_comparison_code (swapped_code code))
swapped_compares Eq h = refl
swapped_compares Ne h = refl
swapped_compares Lt h = refl
swapped_compares Le h = refl
swapped_compares Gt h = refl
swapped_compares Ge h = refl
swapped_compares _ h = cc

ring_number_below : (m n : ℕ) (ts : Trees) → ring_number m ts ≡ Some n → n < 2 ^ m
ring_number_below m n ts e =
    let inner = (if_true (have_forms (same_among ts nil) m ts) (ring_number_by (same_among ts nil) m (ring_difference m ts)) n e).1 in
    let last = (if_true (same_form (same_among ts nil) m (ring_difference m ts) (number_alone (coefficient (same_among ts nil) [] (ring_difference m ts)))) (Some (residue m (coefficient (same_among ts nil) [] (ring_difference m ts)))) n inner).1 in
    let is : residue m (coefficient (same_among ts nil) [] (ring_difference m ts)) ≡ n = cc in
    subst (λ k. k < 2 ^ m) is (residue-below m (coefficient (same_among ts nil) [] (ring_difference m ts)))

module _ (words : ℕ → Ty → Word) (given : GivesWords words) where
  abbrev Has : Tree → Word → Type 0
  Has t x = term_value words t ≡ Some x

  -- the words of two operands
  two_words : (a b : Tree) (x y : Word) → Has a x → Has b y → term_values words (cons a (cons b nil)) ≡ Some (x ∷ y ∷ [])
  two_words a b x y e f = λ i. with_value (e i) (with_value (f i) (Some []))

  operands : (code : Code) (ty : Ty) (a b : Tree) (r : Word) → term_value words (node code ty (cons a (cons b nil))) ≡ Some r
      → (x : Word) × (y : Word) × Has a x × Has b y × (operation_value code ty (x ∷ y ∷ []) ≡ Some r)
  operands code ty a b r e =
      let ws = on_values code ty (term_values words (cons a (cons b nil))) r e in
      let v = both (term_value words a) (term_values words (cons b nil)) ws.0 ws.1 in
      let u = both (term_value words b) (Some []) v.1 v.3 in
      (v.0, u.0, v.2, u.2, sym (ap (operation_on code ty) (two_words a b v.0 u.0 v.2 u.2)) ∙ e)

  in_its_range : (t : Tree) (ty : Ty) (x : Word) → IsWellTyped t → type_of t ≡ ty → Has t x → IsTrue (in_range ty (value x))
  in_its_range t ty x w s e =
      let is = values_are_words words t x given w e in subst (λ (z : Ty). IsTrue (in_range z (value x))) (is.0 ∙ s) (value_in_range x.ty x.bits (width_positive x.ty is.1.1) is.1.0)

  module _ (code : Code) (ty : Ty) (a b : Tree) (compares : IsTrue (is_comparison_code code)) (wa : IsWellTyped a) (wb : IsWellTyped b) (one : type_of b ≡ type_of a) (x y r : Word) (ex : Has a x) (ey : Has b y)
      (is : truth (told code (value x -ℤ value y)) ≡ Some r) where
    abbrev t : Ty
    t = type_of a

    known : IsType t
    known = well_typed_type a wa

    -- a comparison of c and d that tells the same
    same_told : (d : Code) (s : Ty) (c e : Tree) (z w q : Word) → IsTrue (is_comparison_code d) → Has c z → Has e w → term_value words (node d s (cons c (cons e nil))) ≡ Some q
        → told d (value z -ℤ value w) ≡ told code (value x -ℤ value y) → r ≡ q
    same_told d s c e z w q h ez ew eq same =
        let left : truth (told d (value z -ℤ value w)) ≡ Some q = sym (comparison_is d h s z w) ∙ sym (ap (operation_on d s) (two_words c e z w ez ew)) ∙ eq in
        let both_are : Some r ≡ Some q = sym is ∙ ap truth (sym same) ∙ left in cc

    like : (d : Code) (s : Ty) (c e : Tree) (q : Word) → IsWellTyped c → IsWellTyped e → type_of c ≡ type_of a → type_of e ≡ type_of a → term_value words (node d s (cons c (cons e nil))) ≡ Some q
        → HasExactDifference code (cons a (cons b nil)) d (cons c (cons e nil)) → r ≡ q
    unfolding HasExactDifference
    like d s c e q wc we sc se eq (inl h) =
        let o = operands d s c e q eq in
        let equal = one_difference words given (cons a (cons b nil)) (cons c (cons e nil)) (x ∷ y ∷ []) (o.0 ∷ o.1 ∷ []) (wa, (wb, tt)) (wc, (we, tt)) h.1 (two_words a b x y ex ey) (two_words c e o.0 o.1 o.2 o.3) in
        same_told d s c e o.0 o.1 q (subst (λ k. IsTrue (is_comparison_code k)) (sym h.0) compares) o.2 o.3 eq (λ i. told (h.0 i) (sym equal i))
    like d s c e q wc we sc se eq (inr h) =
        let o = operands d s c e q eq in
        let equal = one_difference words given (cons b (cons a nil)) (cons c (cons e nil)) (y ∷ x ∷ []) (o.0 ∷ o.1 ∷ []) (wb, (wa, tt)) (wc, (we, tt)) h.1 (two_words b a y x ey ex) (two_words c e o.0 o.1 o.2 o.3) in
        same_told d s c e o.0 o.1 q (subst (λ k. IsTrue (is_comparison_code k)) (sym h.0) (swapped_compares code compares)) o.2 o.3 eq ((λ i. told (h.0 i) (sym equal i)) ∙ told_swapped code compares (value x) (value y))

    alike : (d : Code) (s : Ty) (c e : Tree) (q : Word) → IsWellTyped c → IsWellTyped e → type_of c ≡ type_of a → type_of e ≡ type_of a → term_value words (node d s (cons c (cons e nil))) ≡ Some q
        → HasRingDifference code (type_of a) (cons a (cons b nil)) d (cons c (cons e nil)) → r ≡ q
    unfolding HasRingDifference
    alike d s c e q wc we sc se eq h = by h.2
      where
        o : (z : Word) × (w : Word) × Has c z × Has e w × (operation_value d s (z ∷ w ∷ []) ≡ Some q)
        o = operands d s c e q eq

        compares_d : IsTrue (is_comparison_code d)
        compares_d = subst (λ k. IsTrue (is_comparison_code k)) (sym h.0) compares

        by : (AreOneModulo (type_of a).width (cons a (cons b nil)) (cons c (cons e nil)) ⊎ AreOneModulo (type_of a).width (cons b (cons a nil)) (cons c (cons e nil))) → r ≡ q
        by (inl f) =
            let near = one_pair words given (type_of a) known a b wa wb refl one x y ex ey c e wc we sc se o.0 o.1 o.2 o.3 f in
            same_told d s c e o.0 o.1 q compares_d o.2 o.3 eq
            (ap (λ k. told k (value o.0 -ℤ value o.1)) h.0
            ∙ sym (told_congruent (type_of a) (width_positive (type_of a) known) (value x) (value y) (in_its_range a (type_of a) x wa refl ex) (in_its_range b (type_of a) y wb one ey) code h.1 (value o.0) (value o.1)
            (in_its_range c (type_of a) o.0 wc sc o.2) (in_its_range e (type_of a) o.1 we se o.3) near))
        by (inr f) =
            let near = one_pair words given (type_of a) known b a wb wa one refl y x ey ex c e wc we sc se o.0 o.1 o.2 o.3 f in
            same_told d s c e o.0 o.1 q compares_d o.2 o.3 eq
            (ap (λ k. told k (value o.0 -ℤ value o.1)) h.0
            ∙ sym (told_congruent (type_of a) (width_positive (type_of a) known) (value y) (value x) (in_its_range b (type_of a) y wb one ey) (in_its_range a (type_of a) x wa refl ex) code h.1 (value o.0) (value o.1)
            (in_its_range c (type_of a) o.0 wc sc o.2) (in_its_range e (type_of a) o.1 we se o.3) near)
            ∙ other code h.1)
          where
            other : (k : Code) → IsTrue (is_equality k) → told k (value y -ℤ value x) ≡ told k (value x -ℤ value y)
            other Eq i = told_swapped Eq refl (value x) (value y)
            other Ne i = told_swapped Ne refl (value x) (value y)
            other _ i = cc

    one_like : (right : Tree) (q : Word) → IsWellTyped right → term_value words right ≡ Some q → IsLikeComparison code (type_of a) (cons a (cons b nil)) right → r ≡ q
    one_like (name version s) q w eq h = absurd h
    one_like (constant word) q w eq h = absurd h
    one_like (node d s nil) q w eq h = let n = h.0 in cc
    one_like (node d s (cons c nil)) q w eq h = let n = h.0 in cc
    one_like (node d s (cons c (cons e (cons g gs)))) q w eq h = let n = h.0 in cc
    one_like (node d s (cons c (cons e nil))) q w eq h = by h.1
      where
        first : type_of c ≡ type_of a
        first = let n = h.0 in cc

        second : type_of e ≡ type_of a
        second = (let n = h.0 in let m : type_of e ≡ type_of b = cc in m) ∙ one

        by : (HasExactDifference code (cons a (cons b nil)) d (cons c (cons e nil)) ⊎ HasRingDifference code (type_of a) (cons a (cons b nil)) d (cons c (cons e nil))) → r ≡ q
        by (inl f) = like d s c e q w.2.0 w.2.1.0 first second eq f
        by (inr f) = alike d s c e q w.2.0 w.2.1.0 first second eq f

    by_constant : (word : Word) → IsToldConstant code (type_of a) (cons a (cons b nil)) (constant word) → r ≡ word
    by_constant word (inl h) =
        let equal = number_difference words given (cons a (cons b nil)) (x ∷ y ∷ []) h.0 (wa, (wb, tt)) h.1 (two_words a b x y ex ey) in
        let both_are : Some r ≡ Some word = sym is ∙ ap (λ z. truth (told code z)) equal ∙ h.2 in cc
    by_constant word (inr h) =
        let near = number_pair words given (type_of a) known a b wa wb refl one x y ex ey h.1 h.2 in
        let same = told_number (type_of a) (width_positive (type_of a) known) (value x) (value y) (in_its_range a (type_of a) x wa refl ex) (in_its_range b (type_of a) y wb one ey) code h.0 h.1
        (ring_number_below (type_of a).width h.1 (cons a (cons b nil)) h.2) near in
        let both_are : Some r ≡ Some word = sym is ∙ ap truth same ∙ h.3 in cc

    one_constant : (right : Tree) (q : Word) → term_value words right ≡ Some q → IsToldConstant code (type_of a) (cons a (cons b nil)) right → r ≡ q
    one_constant (name version s) q eq h = absurd h
    one_constant (node d s ts) q eq h = absurd h
    one_constant (constant word) q eq h = by_constant word h ∙ (let e : word ≡ q = cc in e)

  -- operands of a comparison have one type
  one_operand_type : (code : Code) (ty s t : Ty) → IsTrue (is_comparison_code code) → IsTrue (well_typed_operation code ty (s ∷ t ∷ [])) → t ≡ s
  unfolding well_typed_operation
  one_operand_type Eq ty s t h w = sym (same_type_is s t (and_parts (same_type s t) (same_type ty bool_type) w).0)
  one_operand_type Ne ty s t h w = sym (same_type_is s t (and_parts (same_type s t) (same_type ty bool_type) w).0)
  one_operand_type Lt ty s t h w = sym (same_type_is s t (and_parts (same_type s t) (same_type ty bool_type) w).0)
  one_operand_type Le ty s t h w = sym (same_type_is s t (and_parts (same_type s t) (same_type ty bool_type) w).0)
  one_operand_type Gt ty s t h w = sym (same_type_is s t (and_parts (same_type s t) (same_type ty bool_type) w).0)
  one_operand_type Ge ty s t h w = sym (same_type_is s t (and_parts (same_type s t) (same_type ty bool_type) w).0)
  one_operand_type _ ty s t h w = cc

  pub related_word : (left right : Tree) (r q : Word) → IsWellTyped left → IsWellTyped right → AreRelatedByOrder left right → term_value words left ≡ Some r → term_value words right ≡ Some q → r ≡ q
  unfolding HasRelatedOperands
  related_word (name version s) right r q wl wr h er eq = absurd h
  related_word (constant word) right r q wl wr h er eq = absurd h
  related_word (node code ty nil) right r q wl wr h er eq = let n = h.1 in cc
  related_word (node code ty (cons a nil)) right r q wl wr h er eq = let n = h.1 in cc
  related_word (node code ty (cons a (cons b (cons c cs)))) right r q wl wr h er eq = let n = h.1 in cc
  related_word (node code ty (cons a (cons b nil))) right r q wl wr h er eq = by at_own.2
    where
      own : h.0 ≡ type_of a
      own = let n = h.1 in cc

      at_own : IsRelatedAt code (type_of a) (cons a (cons b nil)) right
      at_own = subst (λ s. IsRelatedAt code s (cons a (cons b nil)) right) own h.2

      o : (x : Word) × (y : Word) × Has a x × Has b y × (operation_value code ty (x ∷ y ∷ []) ≡ Some r)
      o = operands code ty a b r er

      one : type_of b ≡ type_of a
      one = one_operand_type code ty (type_of a) (type_of b) at_own.0 wl.1

      tells : truth (told code (value o.0 -ℤ value o.1)) ≡ Some r
      tells = sym (comparison_is code at_own.0 ty o.0 o.1) ∙ o.4

      by : (IsLikeComparison code (type_of a) (cons a (cons b nil)) right ⊎ IsToldConstant code (type_of a) (cons a (cons b nil)) right) → r ≡ q
      by (inl f) = one_like code ty a b at_own.0 wl.2.0 wl.2.1.0 one o.0 o.1 r o.2 o.3 tells right q wr eq f
      by (inr f) = one_constant code ty a b at_own.0 wl.2.0 wl.2.1.0 one o.0 o.1 r o.2 o.3 tells right q eq f
