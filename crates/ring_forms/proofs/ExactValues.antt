-- A term of a signed type that has a value has the total of its sum as its value, where atoms count
-- their own values.
use Rattle.std.proofs.Common.{◌≡◌, ℕ, ◌^◌, ◌-◌, Bool, true, false, cond, Some, List, [], ◌∷◌, ◌++◌, refl, sym, ap, subst, ◌∙◌, arith}
use Rattle.std.specs.Prelude.{ℤ, pos, negsuc, neg_ℤ, ◌+ℤ◌, ◌-ℤ◌, ◌*ℤ◌, IsTrue}
use Rattle.std.proofs.lemmas.Int.{ints}
use Rattle.std.proofs.lemmas.Nat.{pow_pos}
use Rattle.pm_ops.specs.declared.code.Code.{Code}
use Rattle.pm_ops.specs.declared.code.Code.TheVariants.{Plus, Minus, Mult, Negate, BitNot}
use Rattle.pm_wide.specs.Operations.{operation_value, unary_value, binary_value}
use Rattle.pm_wide.specs.Types.{Ty, Word, IsType, IsWord, value, in_range, least, greatest}
use Rattle.pm_wide.proofs.Values.{exact_signed, complement_congruent, width_positive}
use Rattle.pm_wide.proofs.Whole.{mul_assoc, mul-add, add-mul, one-mul, mul-one, mul_comm}
use Rattle.pm_wide.proofs.Words.{one_value, value_in_range, bounds, within, span}
use Rattle.pm_term.specs.Environments.{GivesWords}
use Rattle.pm_term.specs.Terms.{term_value}
use Rattle.pm_term.specs.Trees.{Tree, name, constant, node, nil, cons, type_of, types_of, IsWellTyped}
use Rattle.pm_term.proofs.OperandValues as operands
use Rattle.pm_term.proofs.TermLaws.{values_are_words}
use Rattle.ring_forms.specs.ExactForms.{goes_exactly, exactly_expanded}
use Rattle.ring_forms.specs.PolynomialValues.{value_or_zero, node_value}
use Rattle.ring_forms.specs.RingForms.{unary_sum, binary_sum, atom}
use Rattle.ring_forms.specs.Sums.{Sum, negated, product}
use Rattle.ring_forms.proofs.ExactLimits.{one_type, two_types, no_three}
use Rattle.ring_forms.proofs.FixedTables.{total, total_append, total_negated, total_product}

module _ (words : ℕ → Ty → Word) (given : GivesWords words) where
  -- the product of the values of these atoms
  abbrev pub nodes_value : List Tree → ℤ
  nodes_value [] = pos 1
  nodes_value (a ∷ rest) = node_value words a *ℤ nodes_value rest

  nodes_append : (p q : List Tree) → nodes_value (p ++ q) ≡ nodes_value p *ℤ nodes_value q
  nodes_append [] q = sym (one-mul (nodes_value q))
  nodes_append (a ∷ rest) q = ap (λ x. node_value words a *ℤ x) (nodes_append rest q) ∙ sym (mul_assoc (node_value words a) (nodes_value rest) (nodes_value q))

  -- a sum, where each product counts its value
  abbrev pub sum_value : Sum Tree → ℤ
  sum_value s = total nodes_value s

  times_each : (x : ℤ) (s : Sum Tree) → total (λ q. x *ℤ nodes_value q) s ≡ x *ℤ sum_value s
  times_each x [] = omega (arith, ints)
  times_each x (e ∷ es) =
      (λ i. turn e.0 x (nodes_value e.1) i +ℤ times_each x es i) ∙ sym (mul-add x (e.0 *ℤ nodes_value e.1) (sum_value es))
    where
      turn : (a b c : ℤ) → a *ℤ (b *ℤ c) ≡ b *ℤ (a *ℤ c)
      turn a b c = sym (mul_assoc a b c) ∙ ap (λ z. z *ℤ c) (mul_comm a b) ∙ mul_assoc b a c

  each_times : (s : Sum Tree) (y : ℤ) → total (λ p. nodes_value p *ℤ y) s ≡ sum_value s *ℤ y
  each_times [] y = zero_times y
    where
      zero_times : (x : ℤ) → pos 0 ≡ pos 0 *ℤ x
      zero_times x = omega (arith, ints)
  each_times (e ∷ es) y = (λ i. sym (mul_assoc e.0 (nodes_value e.1) y) i +ℤ each_times es y i) ∙ sym (add-mul (e.0 *ℤ nodes_value e.1) (sum_value es) y)

  pub product_sum : (s t : Sum Tree) → sum_value (product s t) ≡ sum_value s *ℤ sum_value t
  product_sum s t =
      total_product nodes_value s t ∙ (λ i. total (λ p. total (λ q. nodes_append p q i) t) s)
      ∙ (λ i. total (λ p. times_each (nodes_value p) t i) s) ∙ each_times s (sum_value t)

  atom_sum : (t : Tree) → sum_value (atom t) ≡ node_value words t
  atom_sum t = alone (node_value words t *ℤ pos 1) (node_value words t) (mul-one (node_value words t))
    where
      alone : (x y : ℤ) → x ≡ y → pos 1 *ℤ x +ℤ pos 0 ≡ y
      alone x y e = let f = one-mul x in omega (arith, ints, e, f)

  node_is : (t : Tree) (w : Word) → term_value words t ≡ Some w → node_value words t ≡ value w
  node_is t w e = ap value_or_zero e

  -- -1 less a value of a signed type is a value of it
  complement_range : (t : Ty) (z : ℤ) → IsType t → t.unsigned ≡ false → IsTrue (in_range t z) → IsTrue (in_range t (negsuc 0 -ℤ z))
  complement_range t z k u h =
      let b = bounds t z h in
      let s = span t (width_positive t k) in
      let low = halves t u in
      within t (negsuc 0 -ℤ z) (omega (arith, ints, b.0, b.1, low)) (omega (arith, ints, b.0, b.1, low))
    where
      halves : (t : Ty) → t.unsigned ≡ false → greatest t ≡ negsuc 0 -ℤ least t
      halves t u = by t.unsigned u
        where
          by : (b : Bool) → b ≡ false → cond b (pos (2 ^ t.width - 1)) (pos (2 ^ (t.width - 1) - 1)) ≡ negsuc 0 -ℤ cond b (pos 0) (neg_ℤ (pos (2 ^ (t.width - 1))))
          by true e = cc
          by false e = let some = pow_pos (t.width - 1) in omega (arith, ints, some)

  complement_is : (ty : Ty) (a w : Word) → IsType ty → ty.unsigned ≡ false → IsWord a → IsWord w → a.ty ≡ ty → w.ty ≡ ty → operation_value BitNot ty (a ∷ []) ≡ Some w → value w ≡ negsuc 0 -ℤ value a
  complement_is ty a w k u ha hw ea ew e =
      let range_a : IsTrue (in_range ty (value a)) = subst (λ x. IsTrue (in_range x (value a))) ea (value_in_range a.ty a.bits (width_positive a.ty ha.1) ha.0) in
      let range_w : IsTrue (in_range ty (value w)) = subst (λ x. IsTrue (in_range x (value w))) ew (value_in_range w.ty w.bits (width_positive w.ty hw.1) hw.0) in
      one_value ty (value w) (negsuc 0 -ℤ value a) (width_positive ty k) range_w (complement_range ty (value a) k u range_a) (complement_congruent ty a w ha ea e)

  abbrev Signed : Ty → Type 0
  Signed ty = ty.unsigned ≡ false

  unary_is : (code : Code) (ty : Ty) (t : Tree) (a w : Word) → goes_exactly code ≡ true → IsWellTyped (node code ty (cons t nil)) → Signed ty → term_value words t ≡ Some a → term_value words (node code ty (cons t nil)) ≡ Some w
      → unary_value code ty a ≡ Some w → value a ≡ sum_value (exactly_expanded t) → value w ≡ sum_value (unary_sum code (exactly_expanded t))
  unfolding operation_value
  unary_is Negate ty t a w g h u ea ew e f = (exact_signed ty (neg_ℤ (value a)) w h.0 u e).1 ∙ ap neg_ℤ f ∙ sym (total_negated nodes_value (exactly_expanded t))
  unary_is BitNot ty t a w g h u ea ew e f =
      let oa = values_are_words words t a given h.2.0 ea in
      let ow = values_are_words words (node BitNot ty (cons t nil)) w given h ew in
      complement_is ty a w h.0 u oa.1 ow.1 (oa.0 ∙ one_type BitNot ty (type_of t) refl h.1) ow.0 e ∙ ap (λ x. negsuc 0 -ℤ x) f
      ∙ less (sum_value (exactly_expanded t)) ∙ ap (λ x. negsuc 0 *ℤ pos 1 +ℤ x) (sym (total_negated nodes_value (exactly_expanded t)))
    where
      less : (x : ℤ) → negsuc 0 -ℤ x ≡ negsuc 0 *ℤ pos 1 +ℤ neg_ℤ x
      less x = omega (arith, ints)
  unary_is Plus ty t a w g h u ea ew e f = cc
  unary_is Minus ty t a w g h u ea ew e f = cc
  unary_is Mult ty t a w g h u ea ew e f = cc
  unary_is _ ty t a w g h u ea ew e f = cc

  binary_is : (code : Code) (ty : Ty) (t s : Tree) (a b w : Word) → goes_exactly code ≡ true → IsType ty → Signed ty → binary_value code ty a b ≡ Some w
      → value a ≡ sum_value (exactly_expanded t) → value b ≡ sum_value (exactly_expanded s) → value w ≡ sum_value (binary_sum code 0 (exactly_expanded t) (exactly_expanded s))
  binary_is Plus ty t s a b w g k u e x y = (exact_signed ty (value a +ℤ value b) w k u e).1 ∙ (λ i. x i +ℤ y i) ∙ sym (total_append nodes_value (exactly_expanded t) (exactly_expanded s))
  binary_is Minus ty t s a b w g k u e x y =
      (exact_signed ty (value a -ℤ value b) w k u e).1 ∙ (λ i. x i -ℤ y i) ∙ less (sum_value (exactly_expanded t)) (sum_value (exactly_expanded s))
      ∙ ap (λ z. sum_value (exactly_expanded t) +ℤ z) (sym (total_negated nodes_value (exactly_expanded s))) ∙ sym (total_append nodes_value (exactly_expanded t) (negated (exactly_expanded s)))
    where
      less : (p q : ℤ) → p -ℤ q ≡ p +ℤ neg_ℤ q
      less p q = omega (arith, ints)
  binary_is Mult ty t s a b w g k u e x y = (exact_signed ty (value a *ℤ value b) w k u e).1 ∙ (λ i. x i *ℤ y i) ∙ sym (product_sum (exactly_expanded t) (exactly_expanded s))
  binary_is Negate ty t s a b w g k u e x y = cc
  binary_is BitNot ty t s a b w g k u e x y = cc
  binary_is _ ty t s a b w g k u e x y = cc

  chosen_value : (b : Bool) (z : ℤ) (x y : Sum Tree) → (b ≡ true → z ≡ sum_value x) → (b ≡ false → z ≡ sum_value y) → z ≡ sum_value (cond b x y)
  chosen_value true z x y f g = f refl
  chosen_value false z x y f g = g refl

  -- the value of a term is that of its sum
  pub exact_value : (t : Tree) → IsWellTyped t → Signed (type_of t) → (w : Word) → term_value words t ≡ Some w → value w ≡ sum_value (exactly_expanded t)
  unfolding operation_value
  exact_value (name version ty) h u w e = sym (node_is (name version ty) w e) ∙ sym (atom_sum (name version ty))
  exact_value (constant word) h u w e = let is : word ≡ w = cc in ap value (sym is) ∙ once (value word)
    where
      once : (x : ℤ) → x ≡ x *ℤ pos 1 +ℤ pos 0
      once x = omega (arith, ints)
  exact_value (node code ty nil) h u w e = chosen_value (goes_exactly code) (value w) _ _ (λ g. no_value code e) (λ g. sym (node_is (node code ty nil) w e) ∙ sym (atom_sum (node code ty nil)))
    where
      no_value : (code : Code) → operation_value code ty [] ≡ Some w → value w ≡ pos 0
      no_value code e = cc
  exact_value (node code ty (cons t nil)) h u w e =
      chosen_value (goes_exactly code) (value w) _ _
      (λ g. (let o = operands.one_value code ty (term_value words t) w e in
      unary_is code ty t o.0 w g h u o.1 e o.2 (exact_value t h.2.0 (ap (λ (x : Ty). x.unsigned) (one_type code ty (type_of t) g h.1) ∙ u) o.0 o.1)))
      (λ g. sym (node_is (node code ty (cons t nil)) w e) ∙ sym (atom_sum (node code ty (cons t nil))))
  exact_value (node code ty (cons t (cons s nil))) h u w e =
      chosen_value (goes_exactly code) (value w) _ _
      (λ g. (let o = operands.two_values code ty (term_value words t) (term_value words s) w e in
      let types = two_types code ty (type_of t) (type_of s) g h.1 in
      binary_is code ty t s o.0 o.1 w g h.0 u o.4 (exact_value t h.2.0 (ap (λ (x : Ty). x.unsigned) types.0 ∙ u) o.0 o.2) (exact_value s h.2.1.0 (ap (λ (x : Ty). x.unsigned) types.1 ∙ u) o.1 o.3)))
      (λ g. sym (node_is (node code ty (cons t (cons s nil))) w e) ∙ sym (atom_sum (node code ty (cons t (cons s nil)))))
  exact_value (node code ty (cons t (cons s (cons y ys)))) h u w e =
      chosen_value (goes_exactly code) (value w) _ _ (λ g. absurd (no_three code ty (type_of t) (type_of s) (type_of y) (types_of ys) g h.1))
      (λ g. sym (node_is (node code ty (cons t (cons s (cons y ys)))) w e) ∙ sym (atom_sum (node code ty (cons t (cons s (cons y ys))))))
