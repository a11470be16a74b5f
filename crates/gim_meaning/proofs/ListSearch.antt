-- What is found first in a list, and what all of a list have.
use Rattle.std.proofs.Common.{◌≡◌, Bool, true, false, cond, Some, None, List, [], ◌∷◌, ◌++◌, map}
use Rattle.std.proofs.Common.{refl, sym, ap, subst, ◌∙◌}
use Rattle.std.specs.Prelude.{option_map}
use Rattle.std.specs.List.{list_all, flat_map, AllByRecursion}
use Rattle.std.proofs.lemmas.Bool.{and_parts}
use Rattle.std.proofs.lemmas.Option.{same_Some, none-some}
use Rattle.gim_ast.specs.Functions.{first_where}
use Rattle.gim_ast.proofs.ReadableLemmas.{all_left, all_right}

module _ {X : Type 0} (p : X → Bool) where
  pub found_passes : (xs : List X) (x : X) → first_where p xs ≡ Some x → p x ≡ true
  found_passes [] x h = absurd (none-some x h)
  found_passes (z ∷ xs) x h = by (p z) refl h (found_passes xs x)
    where
      by : (b : Bool) → p z ≡ b → cond b (Some z) (first_where p xs) ≡ Some x →
          (first_where p xs ≡ Some x → p x ≡ true) → p x ≡ true
      by true is e rest = subst (λ t. p t ≡ true) (same_Some z x e) is
      by false is e rest = rest e

  pub first_of_front : (xs ys : List X) (x : X) → first_where p xs ≡ Some x →
      first_where p (xs ++ ys) ≡ Some x
  first_of_front [] ys x h = absurd (none-some x h)
  first_of_front (z ∷ xs) ys x h = by (p z) h (first_of_front xs ys x)
    where
      by : (b : Bool) → cond b (Some z) (first_where p xs) ≡ Some x →
          (first_where p xs ≡ Some x → first_where p (xs ++ ys) ≡ Some x) →
          cond b (Some z) (first_where p (xs ++ ys)) ≡ Some x
      by true e rest = e
      by false e rest = rest e

  pub first_behind : (xs ys : List X) → first_where p xs ≡ None →
      first_where p (xs ++ ys) ≡ first_where p ys
  first_behind [] ys h = refl
  first_behind (z ∷ xs) ys h = by (p z) h (first_behind xs ys)
    where
      by : (b : Bool) → cond b (Some z) (first_where p xs) ≡ None →
          (first_where p xs ≡ None → first_where p (xs ++ ys) ≡ first_where p ys) →
          cond b (Some z) (first_where p (xs ++ ys)) ≡ first_where p ys
      by true e rest = absurd (none-some z (sym e))
      by false e rest = rest e

  -- a change of elements that the test doesn't see
  pub first_of_changed : {Y : Type 0} (q : Y → Bool) (change : X → Y) →
      ((x : X) → q (change x) ≡ p x) → (xs : List X) →
      first_where q (map change xs) ≡ option_map change (first_where p xs)
  first_of_changed q change same [] = refl
  first_of_changed q change same (z ∷ xs) =
      ap (λ b. cond b (Some (change z)) (first_where q (map change xs))) (same z)
      ∙ by (p z) (first_of_changed q change same xs)
    where
      by : (b : Bool) → first_where q (map change xs) ≡ option_map change (first_where p xs) →
          cond b (Some (change z)) (first_where q (map change xs)) ≡ option_map change
          (cond b (Some z) (first_where p xs))
      by true rest = refl
      by false rest = rest

  pub all_of_found : (q : X → Bool) (xs : List X) (x : X) → first_where p xs ≡ Some x →
      list_all q xs ≡ true → q x ≡ true
  all_of_found q [] x h all = absurd (none-some x h)
  all_of_found q (z ∷ xs) x h all = let parts = and_parts _ _ all in
      by (p z) h parts.0 (λ e. all_of_found q xs x e parts.1)
    where
      by : (b : Bool) → cond b (Some z) (first_where p xs) ≡ Some x → q z ≡ true →
          (first_where p xs ≡ Some x → q x ≡ true) → q x ≡ true
      by true e here rest = subst (λ t. q t ≡ true) (same_Some z x e) here
      by false e here rest = rest e

  pub held_by_found : (P : X → Type 0) (xs : List X) (x : X) → first_where p xs ≡ Some x →
      AllByRecursion P xs → P x
  held_by_found P [] x h all = absurd (none-some x h)
  held_by_found P (z ∷ xs) x h all = by (p z) h (λ e. held_by_found P xs x e all.1)
    where
      by : (b : Bool) → cond b (Some z) (first_where p xs) ≡ Some x →
          (first_where p xs ≡ Some x → P x) → P x
      by true e rest = subst P (same_Some z x e) all.0
      by false e rest = rest e

  -- what all have that elements give, those of an element found have
  pub parts_of_found : {Y : Type 0} (P : Y → Type 0) (g : X → List Y) (xs : List X) (x : X) →
      first_where p xs ≡ Some x →
      AllByRecursion P (flat_map g xs) → AllByRecursion P (g x)
  parts_of_found P g [] x h all = absurd (none-some x h)
  parts_of_found P g (z ∷ xs) x h all =
      by (p z) h (all_left P (g z) (flat_map g xs) all)
      (λ e. parts_of_found P g xs x e (all_right P (g z) (flat_map g xs) all))
    where
      by : (b : Bool) → cond b (Some z) (first_where p xs) ≡ Some x → AllByRecursion P (g z) →
          (first_where p xs ≡ Some x → AllByRecursion P (g x)) →
          AllByRecursion P (g x)
      by true e here rest = subst (λ t. AllByRecursion P (g t)) (same_Some z x e) here
      by false e here rest = rest e

pub parts_in_middle : {X Y : Type 0} (P : Y → Type 0) (g : X → List Y) (front : List X) (x : X)
    (rest : List X) →
    AllByRecursion P (flat_map g (front ++ x ∷ rest)) → AllByRecursion P (g x)
parts_in_middle P g [] x rest all = all_left P (g x) (flat_map g rest) all
parts_in_middle P g (z ∷ front) x rest all =
    parts_in_middle P g front x rest (all_right P (g z) (flat_map g (front ++ x ∷ rest)) all)

pub all_in_middle : {X : Type 0} (q : X → Bool) (front : List X) (x : X) (rest : List X) →
    list_all q (front ++ x ∷ rest) ≡ true → q x ≡ true
all_in_middle q [] x rest all = (and_parts _ _ all).0
all_in_middle q (z ∷ front) x rest all = all_in_middle q front x rest ((and_parts _ _ all).1)

pub held_in_middle : {X : Type 0} (P : X → Type 0) (front : List X) (x : X) (rest : List X) →
    AllByRecursion P (front ++ x ∷ rest) → P x
held_in_middle P [] x rest all = all.0
held_in_middle P (z ∷ front) x rest all = held_in_middle P front x rest all.1

-- tests of all, as facts of all
pub each_passes : {X : Type 0} (q : X → Bool) (xs : List X) → list_all q xs ≡ true →
    AllByRecursion (λ x. q x ≡ true) xs
each_passes q [] h = tt
each_passes q (x ∷ xs) h = let parts =
    and_parts (q x) (list_all q xs) h in (parts.0, each_passes q xs parts.1)
