-- Members of lists: what holds of each, and of parts that were made from them.
use Rattle.std.proofs.Common.{◌≡◌, ◌⊎◌, ℕ, zero, suc, Bool, true, false, cond, Some, slice_get, List, [], ◌∷◌, ◌++◌, map, filter, refl, sym, ap, subst, inl, inr, ⊎_elim}
use Rattle.std.specs.List.{list_any, list_all, flat_map, AllByRecursion}
use Rattle.std.proofs.lemmas.Bool.{and_parts, and_from, or_cases, or_left, or_right, both_ways}
use Rattle.std.proofs.lemmas.Option.{same_Some, none-some}

-- x stands in the list, at the head or later
abbrev pub IsMember : {X : Type 0} → X → List X → Type 0
IsMember x [] = ⊥
IsMember x (y ∷ ys) = (y ≡ x) ⊎ IsMember x ys

abbrev pub first_or : {X : Type 0} → X → List X → X
first_or d [] = d
first_or d (x ∷ xs) = x

abbrev pub rest_of : {X : Type 0} → List X → List X
rest_of [] = []
rest_of (x ∷ xs) = xs

module _ {X : Type 0} where
  pub all_members : (p : X → Bool) (xs : List X) → list_all p xs ≡ true → (x : X) → IsMember x xs → p x ≡ true
  all_members p [] all x one = absurd one
  all_members p (y ∷ ys) all x one =
      let parts = and_parts (p y) (list_all p ys) all in
      ⊎_elim (λ here. subst (λ z. p z ≡ true) here parts.0) (λ later. all_members p ys parts.1 x later) one

  pub all_from_members : (p : X → Bool) (xs : List X) → ((x : X) → IsMember x xs → p x ≡ true) → list_all p xs ≡ true
  all_from_members p [] each = refl
  all_from_members p (y ∷ ys) each = and_from (p y) (list_all p ys) (each y (inl refl)) (all_from_members p ys (λ x one. each x (inr one)))

  pub any_from_member : (p : X → Bool) (xs : List X) (x : X) → IsMember x xs → p x ≡ true → list_any p xs ≡ true
  any_from_member p [] x one passes = absurd one
  any_from_member p (y ∷ ys) x one passes = ⊎_elim
      (λ here. or_left (p y) (list_any p ys) (subst (λ z. p z ≡ true) (sym here) passes))
      (λ later. or_right (p y) (list_any p ys) (any_from_member p ys x later passes))
      one

  pub member_from_any : (p : X → Bool) (xs : List X) → list_any p xs ≡ true → (x : X) × IsMember x xs × (p x ≡ true)
  member_from_any p [] any = absurd (both_ways false refl any)
  member_from_any p (y ∷ ys) any = ⊎_elim
      (λ here. (y, inl refl, here))
      (λ later. let found = member_from_any p ys later in (found.0, inr found.1, found.2))
      (or_cases (p y) (list_any p ys) any)

  pub each_member : (P : X → Type 0) (xs : List X) → AllByRecursion P xs → (x : X) → IsMember x xs → P x
  each_member P [] all x one = absurd one
  each_member P (y ∷ ys) all x one = ⊎_elim (λ here. subst P here all.0) (λ later. each_member P ys all.1 x later) one

  pub each_from_members : (P : X → Type 0) (xs : List X) → ((x : X) → IsMember x xs → P x) → AllByRecursion P xs
  each_from_members P [] each = tt
  each_from_members P (y ∷ ys) each = (each y (inl refl), each_from_members P ys (λ x one. each x (inr one)))

  -- ---- lists put together

  pub member_left : (x : X) (xs ys : List X) → IsMember x xs → IsMember x (xs ++ ys)
  member_left x [] ys one = absurd one
  member_left x (z ∷ xs) ys one = ⊎_elim (λ here. inl here) (λ later. inr (member_left x xs ys later)) one

  pub member_right : (x : X) (xs ys : List X) → IsMember x ys → IsMember x (xs ++ ys)
  member_right x [] ys one = one
  member_right x (z ∷ xs) ys one = inr (member_right x xs ys one)

  pub member_cases : (x : X) (xs ys : List X) → IsMember x (xs ++ ys) → IsMember x xs ⊎ IsMember x ys
  member_cases x [] ys one = inr one
  member_cases x (z ∷ xs) ys one = ⊎_elim
      (λ here. inl (inl here))
      (λ later. ⊎_elim (λ front. inl (inr front)) (λ back. inr back) (member_cases x xs ys later))
      one

  pub member_middle : (x : X) (xs ys : List X) → IsMember x (xs ++ x ∷ ys)
  member_middle x xs ys = member_right x xs (x ∷ ys) (inl refl)

  -- a member stands somewhere
  pub member_splits : (x : X) (xs : List X) → IsMember x xs → (front : List X) × (rest : List X) × (xs ≡ front ++ x ∷ rest)
  member_splits x [] one = absurd one
  member_splits x (z ∷ xs) one = ⊎_elim
      (λ here. ([], xs, ap (λ y. y ∷ xs) here))
      (λ later. let found = member_splits x xs later in (z ∷ found.0, found.1, ap (λ l. z ∷ l) found.2))
      one

  pub slice_member : (xs : List X) (place : ℕ) (x : X) → slice_get xs place ≡ Some x → IsMember x xs
  slice_member [] place x is = absurd (none-some x is)
  slice_member (y ∷ xs) zero x is = inl (same_Some y x is)
  slice_member (y ∷ xs) (suc place) x is = inr (slice_member xs place x is)

  -- ---- filtered lists

  pub member_filtered : (p : X → Bool) (x : X) (xs : List X) → IsMember x (filter p xs) → IsMember x xs × (p x ≡ true)
  member_filtered p x [] one = absurd one
  member_filtered p x (z ∷ xs) one = by (p z) refl (member_filtered p x xs) one
    where
      by : (b : Bool) → p z ≡ b → (IsMember x (filter p xs) → IsMember x xs × (p x ≡ true)) → IsMember x (cond b (z ∷ filter p xs) (filter p xs)) → ((z ≡ x) ⊎ IsMember x xs) × (p x ≡ true)
      by true is rest one = ⊎_elim (λ here. (inl here, subst (λ y. p y ≡ true) here is)) (λ later. let r = rest later in (inr r.0, r.1)) one
      by false is rest one = let r = rest one in (inr r.0, r.1)

  pub filtered_member : (p : X → Bool) (x : X) (xs : List X) → IsMember x xs → p x ≡ true → IsMember x (filter p xs)
  filtered_member p x [] one passes = absurd one
  filtered_member p x (z ∷ xs) one passes = by (p z) refl (λ later. filtered_member p x xs later passes) one
    where
      by : (b : Bool) → p z ≡ b → (IsMember x xs → IsMember x (filter p xs)) → (z ≡ x) ⊎ IsMember x xs → IsMember x (cond b (z ∷ filter p xs) (filter p xs))
      by true is rest one = ⊎_elim (λ here. inl here) (λ later. inr (rest later)) one
      by false is rest one = ⊎_elim (λ here. absurd (both_ways (p x) (subst (λ y. p y ≡ false) here is) passes)) (λ later. rest later) one

  -- where all pass, nothing is taken out
  pub all_stay : (p : X → Bool) (xs : List X) → list_all p xs ≡ true → filter p xs ≡ xs
  all_stay p [] all = refl
  all_stay p (x ∷ xs) all =
      let parts = and_parts (p x) (list_all p xs) all in
      rw parts.0 (ap (λ l. x ∷ l) (all_stay p xs parts.1))

module _ {X Y : Type 0} where
  pub member_mapped : (g : X → Y) (y : Y) (xs : List X) → IsMember y (map g xs) → (x : X) × IsMember x xs × (g x ≡ y)
  member_mapped g y [] one = absurd one
  member_mapped g y (z ∷ xs) one = ⊎_elim
      (λ here. (z, inl refl, here))
      (λ later. let found = member_mapped g y xs later in (found.0, inr found.1, found.2))
      one

  pub mapped_member : (g : X → Y) (x : X) (xs : List X) → IsMember x xs → IsMember (g x) (map g xs)
  mapped_member g x [] one = absurd one
  mapped_member g x (z ∷ xs) one = ⊎_elim (λ here. inl (ap g here)) (λ later. inr (mapped_member g x xs later)) one

  pub member_of_parts : (g : X → List Y) (y : Y) (xs : List X) → IsMember y (flat_map g xs) → (x : X) × IsMember x xs × IsMember y (g x)
  member_of_parts g y [] one = absurd one
  member_of_parts g y (z ∷ xs) one = ⊎_elim
      (λ here. (z, inl refl, here))
      (λ later. let found = member_of_parts g y xs later in (found.0, inr found.1, found.2))
      (member_cases y (g z) (flat_map g xs) one)

  pub part_member : (g : X → List Y) (y : Y) (x : X) (xs : List X) → IsMember x xs → IsMember y (g x) → IsMember y (flat_map g xs)
  part_member g y x [] one part = absurd one
  part_member g y x (z ∷ xs) one part = ⊎_elim
      (λ here. member_left y (g z) (flat_map g xs) (subst (λ w. IsMember y (g w)) (sym here) part))
      (λ later. member_right y (g z) (flat_map g xs) (part_member g y x xs later part))
      one
