-- A name that is assigned once stands in one block, at one place.
use Rattle.std.proofs.Common.{◌≡◌, ℕ, true, false, List, [], ◌∷◌, ◌++◌, ◌⊎◌, not, eqb, refl, sym, ap, ◌∙◌, subst, ⊎_elim, append_assoc}
use Rattle.std.specs.List.{list_any, flat_map}
use Rattle.std.proofs.lemmas.Bool.{and_parts, and_from, not-true, or_left, or_right, or_parts, both_ways, eq-eqb}
use Rattle.std.proofs.lemmas.List.Folds.{list_any-append}
use Rattle.gim_ast.specs.WellFormed.{all_distinct}

-- an element of a list, by cases
abbrev pub IsOneOf : {X : Type 0} → X → List X → Type 0
IsOneOf x [] = ⊥
IsOneOf x (y ∷ ys) = (y ≡ x) ⊎ IsOneOf x ys

abbrev pub first_or : {X : Type 0} → X → List X → X
first_or d [] = d
first_or d (x ∷ xs) = x

abbrev pub rest_of : {X : Type 0} → List X → List X
rest_of [] = []
rest_of (x ∷ xs) = xs

pub any_in_middle : (x : ℕ) (xs ys : List ℕ) → list_any (eqb x) (xs ++ x ∷ ys) ≡ true
any_in_middle x [] ys = or_left (eqb x x) (list_any (eqb x) ys) (eq-eqb x x refl)
any_in_middle x (y ∷ xs) ys = or_right (eqb x y) (list_any (eqb x) (xs ++ x ∷ ys)) (any_in_middle x xs ys)

-- nothing that stands in a list of distinct numbers stands in it again
pub not_again : (x : ℕ) (xs ys : List ℕ) → all_distinct eqb (xs ++ x ∷ ys) ≡ true → list_any (eqb x) ys ≡ false
not_again x [] ys h = not-true _ ((and_parts _ _ h).0)
not_again x (y ∷ xs) ys h = not_again x xs ys ((and_parts _ _ h).1)

pub not_twice : (x : ℕ) (us ws vs zs : List ℕ) → all_distinct eqb ((us ++ x ∷ ws) ++ (vs ++ x ∷ zs)) ≡ true → ⊥
not_twice x us ws vs zs h = both_ways _
    (not_again x us (ws ++ (vs ++ x ∷ zs)) (subst (λ l. all_distinct eqb l ≡ true) (append_assoc us (x ∷ ws) (vs ++ x ∷ zs)) h))
    (subst (λ l. list_any (eqb x) l ≡ true) (append_assoc ws vs (x ∷ zs)) (any_in_middle x (ws ++ vs) zs))

-- what follows a number in such a list is one list
pub one_rest : (x : ℕ) (xs ys us vs : List ℕ) → all_distinct eqb (xs ++ x ∷ ys) ≡ true → xs ++ x ∷ ys ≡ us ++ x ∷ vs → ys ≡ vs
one_rest x [] ys [] vs h e = ap rest_of e
one_rest x [] ys (u ∷ us) vs h e = absurd (both_ways _ (not_again x [] ys h) (subst (λ l. list_any (eqb x) l ≡ true) (sym (ap rest_of e)) (any_in_middle x us vs)))
one_rest x (y ∷ xs) ys [] vs h e =
    absurd (both_ways _ (not_again x [] vs (subst (λ l. all_distinct eqb l ≡ true) e h)) (subst (λ l. list_any (eqb x) l ≡ true) (ap rest_of e) (any_in_middle x xs ys)))
one_rest x (y ∷ xs) ys (u ∷ us) vs h e = one_rest x xs ys us vs ((and_parts _ _ h).1) (ap rest_of e)

pub distinct_left : (xs ys : List ℕ) → all_distinct eqb (xs ++ ys) ≡ true → all_distinct eqb xs ≡ true
distinct_left [] ys h = refl
distinct_left (x ∷ xs) ys h =
    let parts = and_parts _ _ h in
    let none = or_parts _ _ (sym (list_any-append (eqb x) xs ys) ∙ not-true _ parts.0) in
    and_from _ _ (ap not none.0) (distinct_left xs ys parts.1)

pub distinct_right : (xs ys : List ℕ) → all_distinct eqb (xs ++ ys) ≡ true → all_distinct eqb ys ≡ true
distinct_right [] ys h = h
distinct_right (x ∷ xs) ys h = distinct_right xs ys ((and_parts _ _ h).1)

module _ {B : Type 0} (assigns : B → List ℕ) where
  -- what an element assigns stands in all that is assigned
  pub assigned_among : (bs : List B) (b : B) (x : ℕ) (front left : List ℕ) → IsOneOf b bs → assigns b ≡ front ++ x ∷ left →
      (us : List ℕ) × (vs : List ℕ) × (flat_map assigns bs ≡ us ++ x ∷ vs)
  assigned_among [] b x front left one is = absurd one
  assigned_among (c ∷ cs) b x front left one is = ⊎_elim
      (λ (here : c ≡ b). (front, left ++ flat_map assigns cs, ap (λ l. l ++ flat_map assigns cs) (ap assigns here ∙ is) ∙ append_assoc front (x ∷ left) (flat_map assigns cs)))
      (λ later. let rest = assigned_among cs b x front left later is in
      (assigns c ++ rest.0, rest.1, ap (λ l. assigns c ++ l) rest.2 ∙ sym (append_assoc (assigns c) rest.0 (x ∷ rest.1))))
      one

  -- two places where a name is assigned are one
  pub one_place : {Y : Type 0} (number : B → Y) (bs : List B) (b c : B) (x : ℕ) (p left q rest : List ℕ) → all_distinct eqb (flat_map assigns bs) ≡ true →
      IsOneOf b bs → assigns b ≡ p ++ x ∷ left → IsOneOf c bs → assigns c ≡ q ++ x ∷ rest → (number b ≡ number c) × (left ≡ rest)
  one_place number [] b c x p left q rest h b_in b_is c_in c_is = absurd b_in
  one_place number (d ∷ ds) b c x p left q rest h b_in b_is c_in c_is = ⊎_elim
      (λ (b_here : d ≡ b). ⊎_elim
      (λ (c_here : d ≡ c). (ap number (sym b_here ∙ c_here), same_rest b_here c_here))
      (λ c_later. absurd (apart _ _ (ap assigns b_here ∙ b_is) (assigned_among ds c x q rest c_later c_is)))
      c_in)
      (λ b_later. ⊎_elim
      (λ (c_here : d ≡ c). absurd (apart _ _ (ap assigns c_here ∙ c_is) (assigned_among ds b x p left b_later b_is)))
      (λ c_later. one_place number ds b c x p left q rest (distinct_right (assigns d) (flat_map assigns ds) h) b_later b_is c_later c_is)
      c_in)
      b_in
    where
      apart : (us ws : List ℕ) → assigns d ≡ us ++ x ∷ ws → ((vs : List ℕ) × (zs : List ℕ) × (flat_map assigns ds ≡ vs ++ x ∷ zs)) → ⊥
      apart us ws is found = not_twice x us ws found.0 found.1
          (subst (λ l. all_distinct eqb l ≡ true) (ap (λ l. l ++ flat_map assigns ds) is ∙ ap (λ l. (us ++ x ∷ ws) ++ l) found.2) h)

      same_rest : d ≡ b → d ≡ c → left ≡ rest
      same_rest b_here c_here =
          let b_as = ap assigns b_here ∙ b_is in
          one_rest x p left q rest (subst (λ l. all_distinct eqb l ≡ true) b_as (distinct_left (assigns d) (flat_map assigns ds) h))
          (sym b_as ∙ (ap assigns c_here ∙ c_is))
