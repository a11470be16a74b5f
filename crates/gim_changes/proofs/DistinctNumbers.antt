-- Lists in which no number stands twice.
use Rattle.std.proofs.Common.{◌≡◌, ℕ, Bool, true, false, cond, List, [], ◌∷◌, ◌++◌, not, eqb, filter, refl, sym, ap, subst, ⊎_elim}
use Rattle.std.specs.List.{list_any}
use Rattle.std.proofs.lemmas.Bool.{and_parts, and_from, not-true, both_ways, eq-eqb, eqb-true, false_from_ne_true}
use Rattle.gim_ast.specs.WellFormed.{all_distinct}
use Rattle.gim_changes.proofs.Members.{first_or, rest_of, IsMember, any_from_member, member_from_any, member_left, member_right, member_middle, member_filtered}

-- no number stands twice
abbrev pub AreDistinct : List ℕ → Type 0
AreDistinct xs = all_distinct eqb xs ≡ true

pub member_found : (x : ℕ) (xs : List ℕ) → IsMember x xs → list_any (eqb x) xs ≡ true
member_found x xs one = any_from_member (eqb x) xs x one (eq-eqb x x refl)

pub found_member : (x : ℕ) (xs : List ℕ) → list_any (eqb x) xs ≡ true → IsMember x xs
found_member x xs any =
    let found = member_from_any (eqb x) xs any in
    subst (λ y. IsMember y xs) (sym (eqb-true x found.0 found.2)) found.1

pub not_later : (x : ℕ) (xs : List ℕ) → AreDistinct (x ∷ xs) → IsMember x xs → ⊥
not_later x xs h one = both_ways (list_any (eqb x) xs) (not-true (list_any (eqb x) xs) (and_parts _ _ h).0) (member_found x xs one)

pub distinct_from : (x : ℕ) (xs : List ℕ) → (IsMember x xs → ⊥) → AreDistinct xs → AreDistinct (x ∷ xs)
distinct_from x xs none rest =
    and_from (not (list_any (eqb x) xs)) (all_distinct eqb xs) (ap not (false_from_ne_true (list_any (eqb x) xs) (λ any. none (found_member x xs any)))) rest

pub distinct_back : (xs ys : List ℕ) → AreDistinct (xs ++ ys) → AreDistinct ys
distinct_back [] ys h = h
distinct_back (x ∷ xs) ys h = distinct_back xs ys ((and_parts _ _ h).1)

pub distinct_front : (xs ys : List ℕ) → AreDistinct (xs ++ ys) → AreDistinct xs
distinct_front [] ys h = refl
distinct_front (x ∷ xs) ys h =
    distinct_from x xs (λ one. not_later x (xs ++ ys) h (member_left x xs ys one)) (distinct_front xs ys ((and_parts _ _ h).1))

pub not_in_both : (x : ℕ) (xs ys : List ℕ) → AreDistinct (xs ++ ys) → IsMember x xs → IsMember x ys → ⊥
not_in_both x [] ys h left right = left
not_in_both x (z ∷ xs) ys h left right = ⊎_elim
    (λ here. not_later z (xs ++ ys) h (subst (λ w. IsMember w (xs ++ ys)) (sym here) (member_right x xs ys right)))
    (λ later. not_in_both x xs ys ((and_parts _ _ h).1) later right)
    left

-- what follows a number is one list
pub one_rest : (x : ℕ) (xs ys us vs : List ℕ) → AreDistinct (xs ++ x ∷ ys) → xs ++ x ∷ ys ≡ us ++ x ∷ vs → ys ≡ vs
one_rest x [] ys [] vs h e = ap rest_of e
one_rest x [] ys (u ∷ us) vs h e = absurd (not_later x ys h (subst (IsMember x) (sym (ap rest_of e)) (member_middle x us vs)))
one_rest x (z ∷ xs) ys [] vs h e =
    let same : z ≡ x = ap (first_or x) e in
    absurd (not_later z (xs ++ x ∷ ys) h (subst (λ w. IsMember w (xs ++ x ∷ ys)) (sym same) (member_middle x xs ys)))
one_rest x (z ∷ xs) ys (u ∷ us) vs h e = one_rest x xs ys us vs ((and_parts _ _ h).1) (ap rest_of e)

pub distinct_filtered : (p : ℕ → Bool) (xs : List ℕ) → AreDistinct xs → AreDistinct (filter p xs)
distinct_filtered p [] h = refl
distinct_filtered p (x ∷ xs) h = by (p x) (distinct_filtered p xs ((and_parts _ _ h).1))
  where
    by : (b : Bool) → AreDistinct (filter p xs) → AreDistinct (cond b (x ∷ filter p xs) (filter p xs))
    by true rest = distinct_from x (filter p xs) (λ one. not_later x xs h ((member_filtered p x xs one).0)) rest
    by false rest = rest
