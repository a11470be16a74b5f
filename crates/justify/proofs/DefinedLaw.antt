-- What is defined by rule has a value wherever the left side has one.
use Rattle.std.proofs.Common.{◌≡◌, ℕ, inl, inr, Option, Some, None, List, [], ◌∷◌, map, refl, sym, ap, subst, ◌∙◌}
use Rattle.std.specs.Prelude.{All, IsSome, IsTrue}
use Rattle.std.proofs.lemmas.List.Elements.{All-nil, All-cons}
use Rattle.pm_ops.specs.declared.code.Code.{Code}
use Rattle.pm_wide.specs.Operations.{operation_value}
use Rattle.pm_wide.specs.Types.{Ty, Word, IsType, IsWord}
use Rattle.pm_wide.specs.Typing.{well_typed_operation}
use Rattle.pm_term.specs.Environments.{GivesWords}
use Rattle.pm_term.specs.Refines.{HasValues, HaveValues}
use Rattle.pm_term.specs.Terms.{operation_on, with_value, term_value, term_values}
use Rattle.pm_term.specs.Trees.{Tree, name, constant, node, Trees, nil, cons, types_of, IsWellTyped, AreWellTyped}
use Rattle.pm_term.proofs.TermLaws.{values_are_words}
use Rattle.ring_forms.proofs.RingLaw.{one_word}
use Rattle.ring_forms.proofs.SameAtoms.{equal_over_table}
use Rattle.justify.specs.DefinedByRule.{always_has_value, IsFineConstant, HasNode, HaveNode, AreRingEqualInOrder, IsTwin, HasFineConstant, IsDefinedAlone, IsKnownFrom, IsDefinedByRule, IsDefined, AreDefined}
use Rattle.justify.proofs.KnownExactly.{known_some}
use Rattle.justify.proofs.OperationValues.{always_some, fine_some}

pub some_value : {X : Type 0} (o : Option X) → IsSome o → (x : X) × (o ≡ Some x)
some_value None h = cc
some_value (Some x) h = (x, refl)

split : (o : Option Word) (p : Option (List Word)) (ws : List Word) → with_value o p ≡ Some ws → (x : Word) × (xs : List Word) × (o ≡ Some x) × (p ≡ Some xs) × (ws ≡ x ∷ xs)
split None p ws e = cc
split (Some x) None ws e = cc
split (Some x) (Some xs) ws e = (x, xs, refl, refl, cc)

module _ (words : ℕ → Ty → Word) (given : GivesWords words) where
  -- the words of operands
  operands_are_words : (ts : Trees) (ws : List Word) → AreWellTyped ts → term_values words ts ≡ Some ws → (map (λ (w : Word). w.ty) ws ≡ types_of ts) × All IsWord ws
  operands_are_words nil ws w e = let is : [] ≡ ws = cc in subst (λ us. (map (λ (u : Word). u.ty) us ≡ []) × All IsWord us) is (refl, All-nil IsWord)
  operands_are_words (cons t ts) ws w e =
      let s = split (term_value words t) (term_values words ts) ws e in
      let first = values_are_words words t s.0 given w.0 s.2 in
      let rest = operands_are_words ts s.1 w.1 s.3 in
      subst (λ us. (map (λ (u : Word). u.ty) us ≡ types_of (cons t ts)) × All IsWord us) (sym s.4) ((λ i. first.0 i ∷ rest.0 i), All-cons IsWord s.0 s.1 first.1 rest.1)

  -- ring-equal operands have equal words
  equal_operands : (xs ys : Trees) (us ws : List Word) → AreWellTyped xs → AreWellTyped ys → AreRingEqualInOrder xs ys → term_values words xs ≡ Some us → term_values words ys ≡ Some ws → us ≡ ws
  equal_operands nil nil us ws wx wy h e f = cc
  equal_operands nil (cons y ys) us ws wx wy h e f = absurd h
  equal_operands (cons x xs) nil us ws wx wy h e f = absurd h
  equal_operands (cons x xs) (cons y ys) us ws wx wy h e f =
      let s = split (term_value words x) (term_values words xs) us e in
      let t = split (term_value words y) (term_values words ys) ws f in
      let first = one_word words given x y s.0 t.0 wx.0 wy.0 (equal_over_table x y wx.0 wy.0 h.0) s.2 t.2 in
      let rest = equal_operands xs ys s.1 t.1 wx.1 wy.1 h.1 s.3 t.3 in
      s.4 ∙ (λ i. first i ∷ rest i) ∙ sym t.4

  -- a node of a term whose nodes all have values
  abbrev Found : Code → Ty → Trees → Type 0
  Found code ty args = (xs : Trees) × IsSome (term_value words (node code ty xs)) × AreWellTyped xs × AreRingEqualInOrder xs args

  mutual
    twin_value : (code : Code) (ty : Ty) (args : Trees) (t : Tree) → IsWellTyped t → HasValues words t → HasNode (IsTwin code ty args) t → Found code ty args
    twin_value code ty args (name version s) w v h = absurd h
    twin_value code ty args (constant word) w v h = absurd h
    twin_value code ty args (node c s xs) w v (inl h) = (xs, subst (λ (p : Code × Ty). IsSome (term_value words (node p.0 p.1 xs))) (λ i. (h.0 i, h.1 i)) v.0, w.2, h.2)
    twin_value code ty args (node c s xs) w v (inr h) = one_twin_value code ty args xs w.2 v.1 h

    one_twin_value : (code : Code) (ty : Ty) (args : Trees) (ts : Trees) → AreWellTyped ts → HaveValues words ts → HaveNode (IsTwin code ty args) ts → Found code ty args
    one_twin_value code ty args nil w v h = absurd h
    one_twin_value code ty args (cons t ts) w v (inl h) = twin_value code ty args t w.0 v.0 h
    one_twin_value code ty args (cons t ts) w v (inr h) = one_twin_value code ty args ts w.1 v.1 h

  by_twin : (code : Code) (ty : Ty) (args : Trees) (ws : List Word) → AreWellTyped args → term_values words args ≡ Some ws → Found code ty args → IsSome (operation_value code ty ws)
  by_twin code ty args ws w e f = by (term_values words f.0) refl f.1
    where
      by : (o : Option (List Word)) → term_values words f.0 ≡ o → IsSome (operation_on code ty o) → IsSome (operation_value code ty ws)
      by None g h = cc
      by (Some us) g h = subst (λ vs. IsSome (operation_value code ty vs)) (equal_operands f.0 args us ws f.2 w f.3 g e) h

  by_constant : (code : Code) (ty : Ty) (args : Trees) (ws : List Word) → IsType ty → IsTrue (well_typed_operation code ty (types_of args)) → AreWellTyped args → term_values words args ≡ Some ws → HasFineConstant code ty args
      → IsSome (operation_value code ty ws)
  unfolding operation_value well_typed_operation
  by_constant code ty nil ws k o w e h = let n = h.1 in cc
  by_constant code ty (cons a nil) ws k o w e h = let n = h.1 in cc
  by_constant code ty (cons a (cons (name version s) nil)) ws k o w e h = let n = h.1 in cc
  by_constant code ty (cons a (cons (node c s xs) nil)) ws k o w e h = let n = h.1 in cc
  by_constant code ty (cons a (cons b (cons c ts))) ws k o w e h = let n = h.1 in cc
  by_constant code ty (cons a (cons (constant b) nil)) ws k o w e h =
      let s = split (term_value words a) (Some (b ∷ [])) ws e in
      let first = values_are_words words a s.0 given w.0 s.2 in
      let is : h.0 ≡ b = (let n = h.1 in cc) in
      let rest : s.1 ≡ b ∷ [] = (let n = s.3 in cc) in
      let fine = subst (IsFineConstant code ty) is h.2 in
      let typed = subst (λ t. IsTrue (well_typed_operation code ty (t ∷ b.ty ∷ []))) (sym first.0) o in
      subst (λ us. IsSome (operation_value code ty us)) (sym (s.4 ∙ ap (λ us. s.0 ∷ us) rest)) (fine_some code ty s.0 b k first.1 (w.1.0.1) typed fine)

  module _ (left : Tree) (wl : IsWellTyped left) (valued : HasValues words left) where
    by_rule : (code : Code) (ty : Ty) (args : Trees) (ws : List Word) → IsWellTyped (node code ty args) → term_values words args ≡ Some ws → IsDefinedByRule left code ty args → IsSome (operation_value code ty ws)
    unfolding IsDefinedAlone IsKnownFrom
    by_rule code ty args ws w e (inl (inl h)) =
        let are = operands_are_words args ws w.2 e in
        always_some code ty ws w.0 (subst (λ us. IsTrue (well_typed_operation code ty us)) (sym are.0) w.1) (subst (λ us. IsTrue (always_has_value code ty us)) (sym are.0) h) are.1
    by_rule code ty args ws w e (inl (inr h)) = by_constant code ty args ws w.0 w.1 w.2 e h
    by_rule code ty args ws w e (inr (inl h)) = by_twin code ty args ws w.2 e (twin_value code ty args left wl valued h)
    by_rule code ty args ws w e (inr (inr h)) = known_some words given code ty args ws w e left wl valued h

    mutual
      pub defined_value : (t : Tree) → IsWellTyped t → IsDefined left t → HasValues words t × IsSome (term_value words t)
      defined_value (name version ty) w h = (tt, refl)
      defined_value (constant word) w h = (tt, refl)
      defined_value (node code ty args) w h =
          let below = defined_values args w.2 h.1 in
          let here = subst (λ o. IsSome (operation_on code ty o)) (sym below.2) (by_rule code ty args below.1 w below.2 h.0) in
          ((here, below.0), here)

      defined_values : (ts : Trees) → AreWellTyped ts → AreDefined left ts → HaveValues words ts × (ws : List Word) × (term_values words ts ≡ Some ws)
      defined_values nil w h = (tt, [], refl)
      defined_values (cons t ts) w h =
          let first = defined_value t w.0 h.0 in
          let rest = defined_values ts w.1 h.1 in
          let x = some_value (term_value words t) first.1 in
          ((first.0, rest.0), x.0 ∷ rest.1, (λ i. with_value (x.1 i) (rest.2 i)))
