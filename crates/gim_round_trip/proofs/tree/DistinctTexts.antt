-- Lists of distinct texts: their parts, and what only one element gives.
use Rattle.std.proofs.Common.{◌≡◌, ℕ, true, false, List, [], ◌∷◌, ◌++◌, refl, sym, ap, subst, ◌∙◌, inl, inr}
use Rattle.std.specs.Prelude.{not}
use Rattle.std.specs.List.{list_any, flat_map}
use Rattle.std.proofs.lemmas.Bool.{and_parts, and_from, not-true}
use Rattle.gim_ast.specs.WellFormed.{same_text, all_distinct}
use Rattle.gim_text.proofs.SameTexts.{same_text_itself}
use Rattle.gim_text.proofs.Membership.{Has, has_left, has_right, has_flat, none_has, none_from_has}

pub front_distinct : (xs ys : List (List ℕ)) → all_distinct same_text (xs ++ ys) ≡ true → all_distinct same_text xs ≡ true
front_distinct [] ys h = refl
front_distinct (x ∷ xs) ys h =
    let p = and_parts (not (list_any (same_text x) (xs ++ ys))) (all_distinct same_text (xs ++ ys)) h in
    let other : list_any (same_text x) xs ≡ false = none_from_has (same_text x) xs
    (λ y there same. none_has (same_text x) (xs ++ ys) (not-true (list_any (same_text x) (xs ++ ys)) p.0) y
    (has_left xs ys y there) same) in
    and_from (not (list_any (same_text x) xs)) (all_distinct same_text xs) (ap not other) (front_distinct xs ys p.1)

pub rest_distinct : (xs ys : List (List ℕ)) → all_distinct same_text (xs ++ ys) ≡ true → all_distinct same_text ys ≡ true
rest_distinct [] ys h = h
rest_distinct (x ∷ xs) ys h =
    rest_distinct xs ys (and_parts (not (list_any (same_text x) (xs ++ ys))) (all_distinct same_text (xs ++ ys)) h).1

-- the first of distinct texts isn't one of the others
pub not_again : (x : List ℕ) (xs : List (List ℕ)) → all_distinct same_text (x ∷ xs) ≡ true → Has xs x → ⊥
not_again x xs h there =
    let p = and_parts (not (list_any (same_text x) xs)) (all_distinct same_text xs) h in
    none_has (same_text x) xs (not-true (list_any (same_text x) xs) p.0) x there (same_text_itself x)

pub apart : (xs ys : List (List ℕ)) → all_distinct same_text (xs ++ ys) ≡ true → (x : List ℕ) → Has xs x → Has ys x → ⊥
apart [] ys h x there here = absurd there
apart (z ∷ xs) ys h x (inl e) here = not_again z (xs ++ ys) h (has_right xs ys z (subst (Has ys) (sym e) here))
apart (z ∷ xs) ys h x (inr there) here = apart xs ys (and_parts (not (list_any (same_text z) (xs ++ ys)))
    (all_distinct same_text (xs ++ ys)) h).1 x there here

-- no two elements give one text
pub one_of : {X : Type 0} (v : X → List (List ℕ)) (xs : List X) → all_distinct same_text (flat_map v xs) ≡ true
    → (a b : X) (t : List ℕ) → Has xs a
    → Has xs b → Has (v a) t → Has (v b) t → a ≡ b
one_of v [] h a b t p q in_a in_b = absurd p
one_of v (x ∷ xs) h a b t (inl p) (inl q) in_a in_b = sym p ∙ q
one_of v (x ∷ xs) h a b t (inl p) (inr q) in_a in_b = absurd (apart (v x) (flat_map v xs) h t (subst (λ y. Has (v y) t) (sym p) in_a)
    (has_flat v xs b t q in_b))
one_of v (x ∷ xs) h a b t (inr p) (inl q) in_a in_b = absurd (apart (v x) (flat_map v xs) h t (subst (λ y. Has (v y) t) (sym q) in_b)
    (has_flat v xs a t p in_a))
one_of v (x ∷ xs) h a b t (inr p) (inr q) in_a in_b = one_of v xs (rest_distinct (v x) (flat_map v xs) h) a b t p q in_a in_b
