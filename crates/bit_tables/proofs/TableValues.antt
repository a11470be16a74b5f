-- The value of a term of the class, where it has one, is the word that wraps.
use Rattle.std.proofs.Common.{◌≡◌, ℕ, ◌-◌, ◌%◌, ◌^◌, ◌<◌, true, false, Some, sym, ap, subst, ◌∙◌, arith}
use Rattle.std.specs.Prelude.{ℤ, pos, neg_ℤ, ◌+ℤ◌, ◌-ℤ◌, ◌*ℤ◌, IsTrue, bit_and, bit_or, bit_xor}
use Rattle.std.specs.Int.{int_rem_euclid}
use Rattle.std.specs.Int.RustNames.{unsigned_abs}
use Rattle.std.proofs.Math.Nat.{mod-eq_of_lt, mod-lt}
use Rattle.std.proofs.lemmas.Int.{ints}
use Rattle.std.proofs.lemmas.Nat.{pow_pos}
use Rattle.pm_ops.specs.declared.code.Code.{Code}
use Rattle.pm_ops.specs.declared.code.Code.TheVariants.{Convert, Plus, Minus, Mult, Negate, BitAnd, BitIor, BitXor, BitNot, Cond}
use Rattle.pm_wide.specs.Congruence.{Congruent}
use Rattle.pm_wide.specs.Operations.{unary_value, binary_value}
use Rattle.pm_wide.specs.Residues.{residue}
use Rattle.pm_wide.specs.Types.{Ty, Word, IsType, IsWord, value, word, word_of}
use Rattle.pm_wide.specs.Typing.{well_typed_operation, well_typed_unary, well_typed_ternary}
use Rattle.pm_wide.proofs.Congruence.{same, sums, differences, products}
use Rattle.pm_wide.proofs.Values.{exact_cases}
use Rattle.pm_wide.proofs.Words.{same_word, value_congruent}
use Rattle.pm_term.specs.Terms.{term_value}
use Rattle.pm_term.specs.Trees.{Tree, name, constant, node, Trees, nil, cons, type_of, IsWellTyped}
use Rattle.pm_term.proofs.OperandValues.{one_value, two_values}
use Rattle.pm_term.proofs.TermLaws.{values_are_words}
use Rattle.bit_tables.specs.TableClass.{HasConstant, keeps_to_bits, IsBitwise, AreBitwise, IsBuiltBy, IsBuilt, AreBuilt}
use Rattle.bit_tables.specs.TableEqual.{AreTableEqual}
use Rattle.bit_tables.specs.WrappedWords.{wrapped_unary, wrapped_binary, wrapped_word}

absurd_typed : {A : Type 0} → false ≡ true → A
absurd_typed h = cc

built_by : (code : Code) (X Y F : Type 0) → X → Y → IsTrue (keeps_to_bits code) → IsBuiltBy code X Y F
built_by Plus X Y F x y h = absurd_typed h
built_by Minus X Y F x y h = absurd_typed h
built_by Negate X Y F x y h = absurd_typed h
built_by Convert X Y F x y h = y
built_by Mult X Y F x y h = absurd_typed h
built_by _ X Y F x y h = x

-- a bitwise term is one of the class
mutual
  bitwise_built : (p : ℕ) (t : Tree) → IsBitwise p t → IsBuilt p t
  bitwise_built p (name version ty) h = h
  bitwise_built p (constant word) h = h
  bitwise_built p (node code ty args) h = built_by code (IsTrue (keeps_to_bits code) × (ty.width ≡ p) × AreBitwise p args) ((ty.width ≡ p) × AreBuilt p args) (HasConstant p args) h (h.1, all_built p args h.2) h.0

  all_built : (p : ℕ) (ts : Trees) → AreBitwise p ts → AreBuilt p ts
  all_built p nil h = tt
  all_built p (cons t ts) h = (bitwise_built p t h.0, all_built p ts h.1)

built_width : (p : ℕ) (t : Tree) → IsBuilt p t → (type_of t).width ≡ p
built_width p (name version ty) h = h
built_width p (constant word) h = h
built_width p (node code ty args) h = by code h
  where
    by : (code : Code) → IsBuiltBy code (IsTrue (keeps_to_bits code) × (ty.width ≡ p) × AreBitwise p args) ((ty.width ≡ p) × AreBuilt p args) (HasConstant p args) → ty.width ≡ p
    by Plus g = g.0
    by Minus g = g.0
    by Negate g = g.0
    by Convert g = g.0
    by Mult g = g.0.0
    by _ g = g.1

less : (z : ℤ) → neg_ℤ z ≡ pos 0 -ℤ z
less z = omega (arith, ints)

module _ (p : ℕ) where
  -- a word of width p is congruent to its value
  near : (a : Word) → a.ty.width ≡ p → Congruent p (value a) (pos a.bits)
  near a e = subst (λ n. Congruent n (value a) (pos a.bits)) e (value_congruent a.ty a.bits)

  -- the word of a number congruent to another
  low_word : (ty : Ty) (z y : ℤ) → ty.width ≡ p → Congruent p z y → word_of ty z ≡ residue p y
  low_word ty z y e h = ap (λ n. unsigned_abs (int_rem_euclid z (pos (2 ^ n)))) e ∙ same_word (record { width = p; unsigned = true }) z y h

  unary_word : (code : Code) (ty : Ty) (t : Tree) (a x : Word) (n : ℕ) → IsTrue (well_typed_unary code ty (type_of t)) → IsBuilt p (node code ty (cons t nil)) → a.ty ≡ type_of t → a.bits < 2 ^ a.ty.width
      → (IsBuilt p t → a.bits ≡ n) → unary_value code ty a ≡ Some x → x.bits ≡ wrapped_unary p code n
  unary_word Convert ty t a x n typed h s below i e =
      let width : a.ty.width ≡ p = ap (λ (y : Ty). y.width) s ∙ built_width p t h.1.0 in
      let is : word ty (value a) ≡ x = cc in
      sym (ap (λ (y : Word). y.bits) is) ∙ low_word ty (value a) (pos a.bits) h.0 (near a width) ∙ mod-eq_of_lt (subst (λ k. a.bits < 2 ^ k) width below) ∙ i h.1.0
  unary_word Negate ty t a x n typed h s below i e =
      let width : a.ty.width ≡ p = ap (λ (y : Ty). y.width) s ∙ built_width p t h.1.0 in
      let is = (exact_cases ty (neg_ℤ (value a)) x e).1 in
      let zero : neg_ℤ (value a) ≡ pos 0 -ℤ value a = less (value a) in
      ap (λ (y : Word). y.bits) is ∙ ap (word_of ty) zero ∙ low_word ty (pos 0 -ℤ value a) (pos 0 -ℤ pos a.bits) h.0 (differences p _ _ _ _ (same p (pos 0)) (near a width))
      ∙ ap (λ k. residue p (pos 0 -ℤ pos k)) (i h.1.0)
  unary_word BitNot ty t a x n typed h s below i e =
      let is : record { bits = 2 ^ ty.width - 1 - a.bits; ty = ty } ≡ x = cc in
      sym (ap (λ (y : Word). y.bits) is) ∙ (λ j. 2 ^ h.1 j - 1 - i (bitwise_built p t h.2.0) j)
  unary_word _ ty t a x n typed h s below i e = cc

  binary_word : (code : Code) (ty : Ty) (t u : Tree) (a b x : Word) (n k : ℕ) → IsBuilt p (node code ty (cons t (cons u nil))) → a.ty ≡ type_of t → b.ty ≡ type_of u
      → (IsBuilt p t → a.bits ≡ n) → (IsBuilt p u → b.bits ≡ k) → binary_value code ty a b ≡ Some x → x.bits ≡ wrapped_binary p code n k
  binary_word Plus ty t u a b x n k h s r i j e =
      let f = near a (ap (λ (y : Ty). y.width) s ∙ built_width p t h.1.0) in
      let g = near b (ap (λ (y : Ty). y.width) r ∙ built_width p u h.1.1.0) in
      ap (λ (y : Word). y.bits) (exact_cases ty (value a +ℤ value b) x e).1 ∙ low_word ty (value a +ℤ value b) (pos a.bits +ℤ pos b.bits) h.0 (sums p _ _ _ _ f g)
      ∙ (λ z. residue p (pos (i h.1.0 z) +ℤ pos (j h.1.1.0 z)))
  binary_word Minus ty t u a b x n k h s r i j e =
      let f = near a (ap (λ (y : Ty). y.width) s ∙ built_width p t h.1.0) in
      let g = near b (ap (λ (y : Ty). y.width) r ∙ built_width p u h.1.1.0) in
      ap (λ (y : Word). y.bits) (exact_cases ty (value a -ℤ value b) x e).1 ∙ low_word ty (value a -ℤ value b) (pos a.bits -ℤ pos b.bits) h.0 (differences p _ _ _ _ f g)
      ∙ (λ z. residue p (pos (i h.1.0 z) -ℤ pos (j h.1.1.0 z)))
  binary_word Mult ty t u a b x n k h s r i j e =
      let f = near a (ap (λ (y : Ty). y.width) s ∙ built_width p t h.0.1.0) in
      let g = near b (ap (λ (y : Ty). y.width) r ∙ built_width p u h.0.1.1.0) in
      ap (λ (y : Word). y.bits) (exact_cases ty (value a *ℤ value b) x e).1 ∙ low_word ty (value a *ℤ value b) (pos a.bits *ℤ pos b.bits) h.0.0 (products p _ _ _ _ f g)
      ∙ (λ z. residue p (pos (i h.0.1.0 z) *ℤ pos (j h.0.1.1.0 z)))
  binary_word BitAnd ty t u a b x n k h s r i j e =
      let is : record { bits = bit_and a.bits b.bits; ty = ty } ≡ x = cc in
      sym (ap (λ (y : Word). y.bits) is) ∙ (λ z. bit_and (i (bitwise_built p t h.2.0) z) (j (bitwise_built p u h.2.1.0) z))
  binary_word BitIor ty t u a b x n k h s r i j e =
      let is : record { bits = bit_or a.bits b.bits; ty = ty } ≡ x = cc in
      sym (ap (λ (y : Word). y.bits) is) ∙ (λ z. bit_or (i (bitwise_built p t h.2.0) z) (j (bitwise_built p u h.2.1.0) z))
  binary_word BitXor ty t u a b x n k h s r i j e =
      let is : record { bits = bit_xor a.bits b.bits; ty = ty } ≡ x = cc in
      sym (ap (λ (y : Word). y.bits) is) ∙ (λ z. bit_xor (i (bitwise_built p t h.2.0) z) (j (bitwise_built p u h.2.1.0) z))
  binary_word _ ty t u a b x n k h s r i j e = cc

  ternary_apart : {A : Type 0} (code : Code) (ty a b c : Ty) (args : Trees) → IsTrue (well_typed_ternary code ty a b c) → IsBuilt p (node code ty args) → A
  ternary_apart Cond ty a b c args typed h = absurd_typed h.0
  ternary_apart _ ty a b c args typed h = absurd_typed typed

module _ (words : ℕ → Ty → Word) (given : (version : ℕ) (ty : Ty) → IsType ty → ((words version ty).ty ≡ ty) × IsWord (words version ty)) where
  -- their words as numbers, each below 2 to the width
  abbrev numbers : ℕ → Ty → ℕ
  numbers version ty = (words version ty).bits % 2 ^ ty.width

  value_wraps : (p : ℕ) (t : Tree) → IsWellTyped t → IsBuilt p t → (r : Word) → term_value words t ≡ Some r → r.bits ≡ wrapped_word numbers p t
  unfolding well_typed_operation
  value_wraps p (name version ty) w h r e =
      let is : words version ty ≡ r = cc in
      let g = given version ty w in
      sym (ap (λ (y : Word). y.bits) is) ∙ sym (mod-eq_of_lt (subst (λ (s : Ty). (words version ty).bits < 2 ^ s.width) g.0 g.1.0))
  value_wraps p (constant word) w h r e = let is : word ≡ r = cc in sym (ap (λ (y : Word). y.bits) is)
  value_wraps p (node code ty nil) w h r e = absurd_typed w.1
  value_wraps p (node code ty (cons t nil)) w h r e =
      let o = one_value code ty (term_value words t) r e in
      let of = values_are_words words t o.0 given w.2.0 o.1 in
      unary_word p code ty t o.0 r _ w.1 h of.0 of.1.0 (λ b. value_wraps p t w.2.0 b o.0 o.1) o.2
  value_wraps p (node code ty (cons t (cons u nil))) w h r e =
      let o = two_values code ty (term_value words t) (term_value words u) r e in
      let ot = values_are_words words t o.0 given w.2.0 o.2 in
      let ou = values_are_words words u o.1 given w.2.1.0 o.3 in
      binary_word p code ty t u o.0 o.1 r _ _ h ot.0 ou.0 (λ b. value_wraps p t w.2.0 b o.0 o.2) (λ b. value_wraps p u w.2.1.0 b o.1 o.3) o.4
  value_wraps p (node code ty (cons t (cons u (cons s nil)))) w h r e = ternary_apart p code ty (type_of t) (type_of u) (type_of s) (cons t (cons u (cons s nil))) w.1 h
  value_wraps p (node code ty (cons t (cons u (cons s (cons q rest))))) w h r e = absurd_typed w.1

  pub equal_words : (left right : Tree) (r s : Word) → IsWellTyped left → IsWellTyped right → AreTableEqual left right → term_value words left ≡ Some r → term_value words right ≡ Some s → r ≡ s
  equal_words left right r s wl wr h el er =
      let p = (type_of left).width in
      let same_bits = h.1 numbers (λ version ty. mod-lt (words version ty).bits (pow_pos ty.width)) in
      let e : r.bits ≡ s.bits = value_wraps (type_of left).width left wl h.0.1 r el ∙ same_bits ∙ sym (value_wraps (type_of left).width right wr h.0.2 s er) in
      let f : r.ty ≡ s.ty = (values_are_words words left r given wl el).0 ∙ h.0.0 ∙ sym (values_are_words words right s given wr er).0 in
      λ i. record { bits = e i; ty = f i }
