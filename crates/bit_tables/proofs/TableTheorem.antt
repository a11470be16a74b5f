-- Words that have bits at one place at most decide whether terms of the class agree under all words.
use Rattle.std.proofs.Common.{◌≡◌, ℕ, zero, suc, ◌-◌, ◌%◌, ◌^◌, ◌≤◌, ◌<◌, Bool, true, false, Option, Some, None, List, [], ◌++◌, length, refl, sym, ap, subst, ◌∙◌, arith}
use Rattle.std.specs.Prelude.{pos, ◌+ℤ◌, ◌-ℤ◌, ◌↔◌, MatchOption}
use Rattle.std.specs.Bool.{MatchBool}
use Rattle.std.specs.Set.{is_member, distinct_count}
use Rattle.std.proofs.lemmas.Int.{ints}
use Rattle.std.proofs.lemmas.Nat.{pow_pos}
use Rattle.std.proofs.Math.Nat.{mod-eq_of_lt}
use Rattle.pm_wide.specs.Congruence.{Congruent}
use Rattle.pm_wide.specs.Types.{Ty, IsType}
use Rattle.pm_wide.proofs.Congruence.{same, turned, joined, differences}
use Rattle.pm_wide.proofs.Values.{width_positive}
use Rattle.pm_wide.proofs.Words.{same_word}
use Rattle.pm_term.specs.Trees.{Tree, type_of, names_in, name, constant, node, IsWellTyped}
use Rattle.bit_tables.specs.TableClass.{same_name, IsBuilt, AreInClass}
use Rattle.bit_tables.specs.TableEqual.{GivesWords, AreTableEqual, AreTableDifferent}
use Rattle.bit_tables.specs.Spots.{spot_word, with_names, AgreeAtPlace, DifferAtPlace}
use Rattle.bit_tables.specs.WrappedWords.{wrapped_word}
use Rattle.bit_tables.proofs.Balance.{Balanced, balanced_tree}
use Rattle.bit_tables.proofs.Crossing.{Four, at_place, four_place}
use Rattle.bit_tables.proofs.NameLemmas.{count_is, member_of_all}
use Rattle.bit_tables.proofs.SpotLemmas.{Each, each_left, each_right, names_decide, both_widths, mask_of, mask-small, spot-mask, spot-zero, spot-small}

-- words below 2 ^ p that are congruent are one
one_word : (p a b : ℕ) → a < 2 ^ p → b < 2 ^ p → Congruent p (pos a) (pos b) → a ≡ b
one_word p a b f g h = sym (mod-eq_of_lt f) ∙ same_word (record { width = p; unsigned = true }) (pos a) (pos b) h ∙ mod-eq_of_lt g

-- two that balance with the same three numbers are one
one_balance : (p a x b c d : ℕ) → Balanced p a b c d → Balanced p x b c d → a ≡ x
one_balance p a x b c d h g =
    let both : Congruent p (pos a +ℤ pos b) (pos x +ℤ pos b) = joined p _ _ _ h.sum (turned p _ _ g.sum) in
    let less = differences p _ _ (pos b) (pos b) both (same p (pos b)) in
    let e : pos a +ℤ pos b -ℤ pos b ≡ pos a = omega (arith, ints) in
    let f : pos x +ℤ pos b -ℤ pos b ≡ pos x = omega (arith, ints) in
    one_word p a x h.first g.first (subst (Congruent p (pos a)) f (subst (λ z. Congruent p z (pos x +ℤ pos b -ℤ pos b)) e less))

module _ (left right : Tree) (p : ℕ) (names : List (ℕ × Ty)) (typed_left : IsWellTyped left) (typed_right : IsWellTyped right) (built_left : IsBuilt p left) (built_right : IsBuilt p right)
    (in_left : Each (λ n. is_member same_name names n ≡ true) (names_in left)) (in_right : Each (λ n. is_member same_name names n ≡ true) (names_in right))
    (agree : (place : ℕ) → place < p → AgreeAtPlace left right p names place) (some : 0 < p) (words : ℕ → Ty → ℕ) (small : GivesWords words) where
  abbrev Same : (ℕ → Ty → ℕ) → Type 0
  Same f = wrapped_word f p left ≡ wrapped_word f p right

  abbrev none : ℕ → Ty → ℕ
  none version ty = 0

  abbrev below : ℕ → ℕ → Ty → ℕ
  below k version ty = words version ty % 2 ^ k

  abbrev at : ℕ → ℕ → Ty → ℕ
  at k version ty = at_place (words version ty) k

  none_same : Same none
  none_same =
      let e : spot_word names 0 0 ≡ none = λ i version ty. spot-zero names 0 version ty i in
      subst Same e (agree 0 some 0 (pow_pos (length names)))

  at_is : (k : ℕ) (t : Tree) → Each (λ n. is_member same_name names n ≡ true) (names_in t) → wrapped_word (at k) p t ≡ wrapped_word (spot_word names k (mask_of names words k)) p t
  at_is k t inside = names_decide (at k) (spot_word names k (mask_of names words k)) p t (λ n m. sym (spot-mask names words k n (inside n m)))

  at_same : (k : ℕ) → k < p → Same (at k)
  at_same k h = at_is k left in_left ∙ agree k h (mask_of names words k) (mask-small names words k) ∙ sym (at_is k right in_right)

  step : (k : ℕ) → k < p → (f : ℕ → Ty → ℕ) → ((version : ℕ) (ty : Ty) → ty.width ≡ p → f version ty ≡ words version ty % 2 ^ suc k) → Same (below k) → Same f
  step k h f is before =
      let of_name : (version : ℕ) (ty : Ty) → ty.width ≡ p → Four p k (f version ty) (none version ty) (below k version ty) (at k version ty)
      = λ version ty e. subst (λ x. Four p k x 0 (words version ty % 2 ^ k) (at_place (words version ty) k)) (sym (is version ty e)) (four_place p k (words version ty) (subst (λ n. words version ty < 2 ^ n) e (small version ty))) in
      let l = balanced_tree p k f none (below k) (at k) of_name left typed_left built_left in
      let r = balanced_tree p k f none (below k) (at k) of_name right typed_right built_right in
      one_balance p _ _ (wrapped_word none p left) (wrapped_word (below k) p left) (wrapped_word (at k) p left) l
      (rw (none_same, before, at_same k h) r)

  below_same : (k : ℕ) → k ≤ p → Same (below k)
  below_same zero h =
      let e : none ≡ below zero = λ i version ty. (let f : 0 ≡ words version ty % 1 = omega arith in f) i in
      subst Same e none_same
  below_same (suc k) h = step k (omega arith) (below (suc k)) (λ version ty e. refl) (below_same k (omega arith))

  pub all_same : wrapped_word words p left ≡ wrapped_word words p right
  all_same =
      let k = p - 1 in
      let next : suc k ≡ p = omega arith in
      step k (omega arith) words (λ version ty e. sym (mod-eq_of_lt (subst (λ n. words version ty < 2 ^ n) (e ∙ sym next) (small version ty)))) (below_same k (omega arith))

-- ---- what the code's answers say

known_type : (t : Tree) → IsWellTyped t → IsType (type_of t)
known_type (name version ty) h = h
known_type (constant word) h = h.0
known_type (node code ty args) h = h.0

judged : (left right : Tree) (ty : Ty) (names : List (ℕ × Ty)) (b : Bool) → IsWellTyped left → IsWellTyped right
    → ty ≡ type_of left → AreInClass left right → names ≡ with_names [] (names_in left ++ names_in right)
    → MatchBool b ((place : ℕ) → place < ty.width → AgreeAtPlace left right ty.width names place) ((place : ℕ) × (place < ty.width) × DifferAtPlace left right ty.width names place)
    → MatchBool b (AreTableEqual left right) (AreTableDifferent left right)
judged left right ty names b typed_left typed_right e inside is = by b
  where
    some : 0 < ty.width
    some = width_positive ty (subst IsType (sym e) (known_type left typed_left))

    built_left : IsBuilt ty.width left
    built_left = subst (λ t. IsBuilt t.width left) (sym e) inside.1

    built_right : IsBuilt ty.width right
    built_right = subst (λ t. IsBuilt t.width right) (sym e) inside.2

    in_names : Each (λ n. is_member same_name names n ≡ true) (names_in left ++ names_in right)
    in_names n m = subst (λ ns. is_member same_name ns n ≡ true) (sym is) (member_of_all [] (names_in left ++ names_in right) n ∙ m)

    widths : Each (λ n. n.1.width ≡ ty.width) names
    widths n m = both_widths ty.width left right built_left built_right n (sym (member_of_all [] (names_in left ++ names_in right) n) ∙ subst (λ ns. is_member same_name ns n ≡ true) is m)

    by : (b : Bool) → MatchBool b ((place : ℕ) → place < ty.width → AgreeAtPlace left right ty.width names place) ((place : ℕ) × (place < ty.width) × DifferAtPlace left right ty.width names place)
        → MatchBool b (AreTableEqual left right) (AreTableDifferent left right)
    by true h = (
      inside,
      λ words small. subst (λ t. wrapped_word words t.width left ≡ wrapped_word words t.width right) e
          (all_same left right ty.width names typed_left typed_right built_left built_right (each_left _ (names_in left) (names_in right) in_names) (each_right _ (names_in left) (names_in right) in_names) h some words small),
    )
    by false (place, within, (mask, differ)) = (
      inside,
      (
        spot_word names place mask,
        spot-small ty.width names place mask within widths,
        subst (λ t. wrapped_word (spot_word names place mask) t.width left ≡ wrapped_word (spot_word names place mask) t.width right → ⊥) e differ,
      ),
    )

-- the same where the code's terms have these trees
pub judged_of : (l r left right : Tree) (ty : Ty) (names items : List (ℕ × Ty)) (b : Bool) → l ≡ left → r ≡ right → IsWellTyped left → IsWellTyped right
    → ty ≡ type_of left → names ≡ items → AreInClass left right × (items ≡ with_names [] (names_in left ++ names_in right))
    → MatchBool b ((place : ℕ) → place < ty.width → AgreeAtPlace l r ty.width names place) ((place : ℕ) × (place < ty.width) × DifferAtPlace l r ty.width names place)
    → MatchBool b (AreTableEqual left right) (AreTableDifferent left right)
judged_of l r left right ty names items b p q typed_left typed_right e f inside h =
    judged left right ty names b typed_left typed_right e inside.0 (f ∙ inside.1)
    (subst (λ x. MatchBool b ((place : ℕ) → place < ty.width → AgreeAtPlace left x ty.width names place) ((place : ℕ) × (place < ty.width) × DifferAtPlace left x ty.width names place)) q
    (subst (λ x. MatchBool b ((place : ℕ) → place < ty.width → AgreeAtPlace x r ty.width names place) ((place : ℕ) × (place < ty.width) × DifferAtPlace x r ty.width names place)) p h))

-- an answer of that sense, for each thing that it can say
pub answers : (left right : Tree) (b : Bool) → MatchBool b (AreTableEqual left right) (AreTableDifferent left right)
    → ((Some b ≡ Some true) ↔ AreTableEqual left right) × ((Some b ≡ Some false) ↔ AreTableDifferent left right) × ((Some b ≡ None) ↔ (¬ AreInClass left right))
answers left right true h =
    ((λ _. h, λ _. refl), (λ e. cc, λ d. absurd (d.1.2 (h.1 d.1.0 d.1.1))), (λ e. cc, λ n. absurd (n h.0)))
answers left right false h =
    ((λ e. cc, λ d. absurd (h.1.2 (d.1 h.1.0 h.1.1))), (λ _. h, λ _. refl), (λ e. cc, λ n. absurd (n h.0)))

-- names of terms that are so built: gathered, or too many
classed : {V : Type 0} (items : V → List (ℕ × Ty)) (left right : Tree) (o : Option V) → type_of left ≡ type_of right
    → IsBuilt (type_of left).width left → IsBuilt (type_of left).width right
    → MatchOption o (6 < length (with_names [] (names_in left ++ names_in right))) (λ v. (items v ≡ with_names [] (names_in left ++ names_in right)) × (length (items v) ≤ 6))
    → MatchOption o (¬ AreInClass left right) (λ v. AreInClass left right × (items v ≡ with_names [] (names_in left ++ names_in right)))
classed items left right None e f g h = λ inside. let c = count_is (names_in left ++ names_in right) in let d = inside.3 in omega (arith, c, d, h)
classed items left right (Some v) e f g h =
    let c = count_is (names_in left ++ names_in right) in
    let d = ap (λ (ns : List (ℕ × Ty)). length ns) h.0 in
    let few : distinct_count same_name (names_in left ++ names_in right) ≤ 6 = omega (arith, c, d, h.1) in
    ((e, f, g, few), h.0)

pub classed_of : {V : Type 0} (items : V → List (ℕ × Ty)) (l r left right : Tree) (s t : Ty) (width : ℕ) (o : Option V) → l ≡ left → r ≡ right
    → s ≡ type_of left → t ≡ type_of right → s ≡ t → width ≡ s.width → IsBuilt width left → IsBuilt width right
    → MatchOption o (6 < length (with_names [] (names_in l ++ names_in r))) (λ v. (items v ≡ with_names [] (names_in l ++ names_in r)) × (length (items v) ≤ 6))
    → MatchOption o (¬ AreInClass left right) (λ v. AreInClass left right × (items v ≡ with_names [] (names_in left ++ names_in right)))
classed_of items l r left right s t width o p q f g e w built_left built_right h =
    let is : width ≡ (type_of left).width = w ∙ ap (λ (x : Ty). x.width) f in
    classed items left right o (sym f ∙ e ∙ g)
    (subst (λ n. IsBuilt n left) is built_left) (subst (λ n. IsBuilt n right) is built_right)
    (subst (λ x. MatchOption o (6 < length (with_names [] (names_in left ++ names_in x))) (λ v. (items v ≡ with_names [] (names_in left ++ names_in x)) × (length (items v) ≤ 6))) q
    (subst (λ x. MatchOption o (6 < length (with_names [] (names_in x ++ names_in r))) (λ v. (items v ≡ with_names [] (names_in x ++ names_in r)) × (length (items v) ≤ 6))) p h))
