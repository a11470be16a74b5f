-- An operation whose exact form is that of something that has a value, or a number in its range, has
-- a value.
use Rattle.std.proofs.Common.{◌≡◌, ℕ, Bool, true, false, cond, inl, inr, Option, Some, None, List, [], ◌∷◌, ◌++◌, refl, sym, ap, subst, ◌∙◌, arith}
use Rattle.std.specs.Prelude.{ℤ, pos, negsuc, neg_ℤ, ◌+ℤ◌, ◌-ℤ◌, ◌*ℤ◌, IsSome, IsTrue}
use Rattle.std.proofs.lemmas.Bool.{and_parts}
use Rattle.std.proofs.lemmas.Int.{ints}
use Rattle.pm_ops.specs.declared.code.Code.{Code}
use Rattle.pm_ops.specs.declared.code.Code.TheVariants.{Plus, Minus, Mult, Negate, BitNot}
use Rattle.pm_wide.specs.Operations.{exact, operation_value}
use Rattle.pm_wide.specs.Types.{Ty, Word, value, word, in_range}
use Rattle.pm_wide.specs.Typing.{well_typed_operation}
use Rattle.pm_wide.proofs.Values.{width_positive, exact_within}
use Rattle.pm_wide.proofs.Words.{value_in_range}
use Rattle.pm_term.specs.Environments.{GivesWords}
use Rattle.pm_term.specs.Refines.{HasValues, HaveValues}
use Rattle.pm_term.specs.Terms.{with_value, term_value, term_values}
use Rattle.pm_term.specs.Trees.{Tree, name, constant, node, Trees, nil, cons, type_of, types_of, IsWellTyped, AreWellTyped}
use Rattle.pm_term.proofs.RefiningLaws.{both}
use Rattle.pm_term.proofs.TermLaws.{values_are_words}
use Rattle.ring_forms.specs.Differences.{all_signed, have_exact_forms, same_among, AreOneExactly, exact_difference, exact_number_by, exact_number}
use Rattle.ring_forms.specs.ExactForms.{goes_exactly, exactly_expanded, atoms_in, atoms_of, have_exact_parts}
use Rattle.ring_forms.specs.RingForms.{unary_sum, binary_sum, atom}
use Rattle.ring_forms.specs.Sums.{Sum, negated}
use Rattle.ring_forms.proofs.Agreement.{all_append}
use Rattle.ring_forms.proofs.DifferenceLaw.{listed, if_true, AtomsValued, all_atoms_valued, one_total_value, atom_value, sign, number_value, atom_is_no_number}
use Rattle.ring_forms.proofs.ExactDifferences.{signed_first}
use Rattle.ring_forms.proofs.ExactLimits.{one_type, two_types, no_three}
use Rattle.ring_forms.proofs.ExactValues.{nodes_value, exact_value, product_sum}
use Rattle.ring_forms.proofs.FixedTables.{total, total_append, total_negated}
use Rattle.justify.specs.DefinedByRule.{HasNode, HaveNode, HasExactForm, IsNumberInRange, IsKnownExactly}

within_some : (ty : Ty) (z y : ℤ) → z ≡ y → IsTrue (in_range ty y) → IsSome (exact ty z)
within_some ty z y e h = subst (λ o. IsSome o) (sym (ap (exact ty) e ∙ exact_within ty y h)) refl

module _ (words : ℕ → Ty → Word) (given : GivesWords words) where
  abbrev sum_value : Sum Tree → ℤ
  sum_value s = total (nodes_value words given) s

  one_some : (code : Code) (ty : Ty) (t : Tree) (a : Word) → goes_exactly code ≡ true → IsTrue (well_typed_operation code ty (type_of t ∷ [])) → value a ≡ sum_value (exactly_expanded t)
      → IsTrue (in_range ty (sum_value (unary_sum code (exactly_expanded t)))) → IsSome (operation_value code ty (a ∷ []))
  unfolding operation_value well_typed_operation
  one_some Negate ty t a g w e h = within_some ty (neg_ℤ (value a)) (sum_value (negated (exactly_expanded t))) (ap neg_ℤ e ∙ sym (total_negated (nodes_value words given) (exactly_expanded t))) h
  one_some BitNot ty t a g w e h = refl
  one_some Plus ty t a g w e h = cc
  one_some Minus ty t a g w e h = cc
  one_some Mult ty t a g w e h = cc
  one_some _ ty t a g w e h = cc

  two_some : (code : Code) (ty : Ty) (t u : Tree) (a b : Word) → goes_exactly code ≡ true → IsTrue (well_typed_operation code ty (type_of t ∷ type_of u ∷ [])) → value a ≡ sum_value (exactly_expanded t) → value b ≡ sum_value (exactly_expanded u)
      → IsTrue (in_range ty (sum_value (binary_sum code 0 (exactly_expanded t) (exactly_expanded u)))) → IsSome (operation_value code ty (a ∷ b ∷ []))
  unfolding operation_value well_typed_operation
  two_some Plus ty t u a b g w e f h = within_some ty (value a +ℤ value b) _ ((λ i. e i +ℤ f i) ∙ sym (total_append (nodes_value words given) (exactly_expanded t) (exactly_expanded u))) h
  two_some Minus ty t u a b g w e f h =
      within_some ty (value a -ℤ value b) _
      ((λ i. e i -ℤ f i) ∙ less (sum_value (exactly_expanded t)) (sum_value (exactly_expanded u)) ∙ ap (λ z. sum_value (exactly_expanded t) +ℤ z) (sym (total_negated (nodes_value words given) (exactly_expanded u)))
      ∙ sym (total_append (nodes_value words given) (exactly_expanded t) (negated (exactly_expanded u)))) h
    where
      less : (p q : ℤ) → p -ℤ q ≡ p +ℤ neg_ℤ q
      less p q = omega (arith, ints)
  two_some Mult ty t u a b g w e f h = within_some ty (value a *ℤ value b) _ ((λ i. e i *ℤ f i) ∙ sym (product_sum words given (exactly_expanded t) (exactly_expanded u))) h
  two_some Negate ty t u a b g w e f h = cc
  two_some BitNot ty t u a b g w e f h = cc
  two_some _ ty t u a b g w e f h = cc

  untyped : (code : Code) (ty : Ty) → IsTrue (well_typed_operation code ty []) → ⊥
  unfolding well_typed_operation
  untyped code ty w = cc

  -- an operation by parts has a value where its sum has one in range
  parts_some : (code : Code) (ty : Ty) (args : Trees) (ws : List Word) → goes_exactly code ≡ true → IsWellTyped (node code ty args) → ty.unsigned ≡ false → term_values words args ≡ Some ws
      → IsTrue (in_range ty (sum_value (exactly_expanded (node code ty args)))) → IsSome (operation_value code ty ws)
  parts_some code ty nil ws g w u e h = absurd (untyped code ty w.1)
  parts_some code ty (cons t nil) ws g w u e h =
      let v = both (term_value words t) (Some []) ws e in
      let is = listed (term_value words t) (Some []) v.0 [] ws v.2 refl e in
      let sign_t : (type_of t).unsigned ≡ false = ap (λ (s : Ty). s.unsigned) (one_type code ty (type_of t) g w.1) ∙ u in
      subst (λ xs. IsSome (operation_value code ty xs)) is
      (one_some code ty t v.0 g w.1 (exact_value words given t w.2.0 sign_t v.0 v.2) (subst (λ s. IsTrue (in_range ty (sum_value s))) (ap (λ b. cond b (unary_sum code (exactly_expanded t)) (atom (node code ty (cons t nil)))) g) h))
  parts_some code ty (cons t (cons s nil)) ws g w u e h =
      let v = both (term_value words t) (term_values words (cons s nil)) ws e in
      let x = both (term_value words s) (Some []) v.1 v.3 in
      let is : v.0 ∷ x.0 ∷ [] ≡ ws
      = ap (λ xs. v.0 ∷ xs) (listed (term_value words s) (Some []) x.0 [] v.1 x.2 refl v.3) ∙ listed (term_value words t) (term_values words (cons s nil)) v.0 v.1 ws v.2 v.3 e in
      let types = two_types code ty (type_of t) (type_of s) g w.1 in
      let sign_t : (type_of t).unsigned ≡ false = ap (λ (z : Ty). z.unsigned) types.0 ∙ u in
      let sign_s : (type_of s).unsigned ≡ false = ap (λ (z : Ty). z.unsigned) types.1 ∙ u in
      subst (λ xs. IsSome (operation_value code ty xs)) is
      (two_some code ty t s v.0 x.0 g w.1 (exact_value words given t w.2.0 sign_t v.0 v.2) (exact_value words given s w.2.1.0 sign_s x.0 x.2)
      (subst (λ f. IsTrue (in_range ty (sum_value f))) (ap (λ b. cond b (binary_sum code 0 (exactly_expanded t) (exactly_expanded s)) (atom (node code ty (cons t (cons s nil))))) g) h))
  parts_some code ty (cons t (cons s (cons y ys))) ws g w u e h = absurd (no_three code ty (type_of t) (type_of s) (type_of y) (types_of ys) g w.1)

  -- ---- a node of the left side with that exact form

  abbrev Found : Tree → Type 0
  Found t = (u : Tree) × IsWellTyped u × ((w : Word) × (term_value words u ≡ Some w)) × HasExactForm t u

  some_of : (u : Tree) → IsSome (term_value words u) → (w : Word) × (term_value words u ≡ Some w)
  some_of u h = by (term_value words u) refl h
    where
      by : (o : Option Word) → term_value words u ≡ o → IsSome o → (w : Word) × (term_value words u ≡ Some w)
      by None e h = cc
      by (Some w) e h = (w, e)

  mutual
    pub form_found : (t u : Tree) → IsWellTyped u → HasValues words u → HasNode (HasExactForm t) u → Found t
    form_found t (name version s) w v h = (name version s, w, (words version s, refl), h)
    form_found t (constant c) w v h = (constant c, w, (c, refl), h)
    form_found t (node code s args) w v (inl h) = (node code s args, w, some_of (node code s args) v.0, h)
    form_found t (node code s args) w v (inr h) = one_form_found t args w.2 v.1 h

    one_form_found : (t : Tree) (us : Trees) → AreWellTyped us → HaveValues words us → HaveNode (HasExactForm t) us → Found t
    one_form_found t nil w v h = absurd h
    one_form_found t (cons u us) w v (inl h) = form_found t u w.0 v.0 h
    one_form_found t (cons u us) w v (inr h) = one_form_found t us w.1 v.1 h

  module _ (code : Code) (ty : Ty) (args : Trees) (ws : List Word) (w : IsWellTyped (node code ty args)) (e : term_values words args ≡ Some ws) where
    abbrev t : Tree
    t = node code ty args

    own_atoms : goes_exactly code ≡ true → AtomsValued words given (atoms_of (cons t nil))
    own_atoms g = all_append (λ a. (x : Word) × (term_value words a ≡ Some x)) (atoms_in t) [] (by (goes_exactly code) g) tt
      where
        by : (b : Bool) → b ≡ true → AtomsValued words given (cond b (atoms_of args) (t ∷ []))
        by true h = all_atoms_valued words given args ws e
        by false h = cc

    single : (u : Tree) (x : Word) → term_value words u ≡ Some x → term_values words (cons u nil) ≡ Some (x ∷ [])
    single u x f = ap (λ o. with_value o (Some [])) f

    by_form : Found t → IsSome (operation_value code ty ws)
    by_form f = by (goes_exactly code) refl
      where
        has : IsTrue (have_exact_forms (same_among (cons f.0 nil) (cons t nil)) (cons t nil))
        has = f.3.1.1

        sign_t : ty.unsigned ≡ false
        sign_t = signed_first ty.unsigned _ (and_parts (all_signed (cons t nil)) (have_exact_parts (same_among (cons f.0 nil) (cons t nil)) (cons t nil)) has).0

        sign_u : (type_of f.0).unsigned ≡ false
        sign_u = ap (λ (s : Ty). s.unsigned) f.3.0 ∙ sign_t

        range : IsTrue (in_range ty (value f.2.0))
        range =
            let is = values_are_words words f.0 f.2.0 given f.1 f.2.1 in
            subst (λ (s : Ty). IsTrue (in_range s (value f.2.0))) (is.0 ∙ f.3.0) (value_in_range f.2.0.ty f.2.0.bits (width_positive f.2.0.ty is.1.1) is.1.0)

        valued : AtomsValued words given (atoms_of (cons f.0 nil))
        valued = all_atoms_valued words given (cons f.0 nil) (f.2.0 ∷ []) (single f.0 f.2.0 f.2.1)

        by : (b : Bool) → goes_exactly code ≡ b → IsSome (operation_value code ty ws)
        by false g = atom_value words given (cons f.0 nil) code ty args (f.1, tt) w g f.3.1 valued ws e
        by true g =
            let same = one_total_value words given (cons f.0 nil) (cons t nil) (f.1, tt) (w, tt) f.3.1 valued (own_atoms g) in
            let is : value f.2.0 ≡ sum_value (exactly_expanded t) = exact_value words given f.0 f.1 sign_u f.2.0 f.2.1 ∙ same in
            parts_some code ty args ws g w sign_t e (subst (λ z. IsTrue (in_range ty z)) is range)

    by_number : IsNumberInRange t → IsSome (operation_value code ty ws)
    by_number h = by (goes_exactly code) refl
      where
        by : (b : Bool) → goes_exactly code ≡ b → IsSome (operation_value code ty ws)
        by false g = absurd (atom_is_no_number words given code ty args h.0 w g h.1)
        by true g =
            let s = signed_first ty.unsigned _ (sign words given (cons t nil) (w, tt) h.0 h.1) in
            let is = number_value words given (cons t nil) (w, tt) h.0 h.1 (own_atoms g) in
            parts_some code ty args ws g w s e (subst (λ z. IsTrue (in_range ty z)) (sym is) h.2)

    pub known_some : (left : Tree) → IsWellTyped left → HasValues words left → IsKnownExactly left t → IsSome (operation_value code ty ws)
    unfolding IsKnownExactly
    known_some left wl v (inl h) = by_form (form_found t left wl v h)
    known_some left wl v (inr h) = by_number h

-- a term whose exact form is a number has a type with a sign
pub number_signed : (t : Tree) (z : ℤ) → exact_number (cons t nil) ≡ Some z → (type_of t).unsigned ≡ false
number_signed t z e =
    let has = (if_true (have_exact_forms (same_among (cons t nil) nil) (cons t nil)) (exact_number_by (same_among (cons t nil) nil) (exact_difference (cons t nil))) z e).0 in
    signed_first (type_of t).unsigned _ (and_parts (all_signed (cons t nil)) (have_exact_parts (same_among (cons t nil) nil) (cons t nil)) has).0
