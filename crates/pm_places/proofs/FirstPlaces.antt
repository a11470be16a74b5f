-- The fault that is found first stands at the first place that is at fault.
use Rattle.std.proofs.Common.{◌≡◌, List, [], ◌∷◌, ◌++◌, Option, Some, None, refl, ap, subst, ◌∙◌}
use mathlib.Core.List.{reverse_aux}
use Rattle.pm_places.specs.FirstFaults.{or_fault, first_by, IsFirstPlace}

-- the same, behind elements that were judged before
record IsFirstBehind {X F : Type 0} (judge : List X → X → Option F) (known xs : List X) (fault : F) : Type 0 where
  front : List X
  at : X
  back : List X
  splits : xs ≡ front ++ at ∷ back
  broken : judge (reverse_aux front known) at ≡ Some fault
  sound : (before after : List X) (x : X) → front ≡ before ++ x ∷ after → judge (reverse_aux before known) x ≡ None

module _ {X F : Type 0} (judge : List X → X → Option F) where
  here : (known : List X) (x : X) (xs : List X) (fault : F) → judge known x ≡ Some fault → IsFirstBehind judge known (x ∷ xs) fault
  here known x xs fault e = record { front = []; at = x; back = xs; splits = refl; broken = e; sound = none_before } where
    none_before : (before after : List X) (y : X) → [] ≡ before ++ y ∷ after → judge (reverse_aux before known) y ≡ None
    none_before [] after y e = absurd cc
    none_before (z ∷ before) after y e = absurd cc

  there : (known : List X) (x : X) (xs : List X) (fault : F) → judge known x ≡ None → IsFirstBehind judge (x ∷ known) xs fault
      → IsFirstBehind judge known (x ∷ xs) fault
  there known x xs fault e later =
      record { front = x ∷ later.front; at = later.at; back = later.back; splits = ap (λ ys. x ∷ ys) later.splits; broken = later.broken; sound = none_before } where
        same_first : (y : X) (ys zs : List X) → x ∷ ys ≡ y ∷ zs → (x ≡ y) × (ys ≡ zs)
        same_first y ys zs e = (cc, cc)

        none_before : (before after : List X) (y : X) → x ∷ later.front ≡ before ++ y ∷ after → judge (reverse_aux before known) y ≡ None
        none_before [] after y is = subst (λ z. judge known z ≡ None) (same_first y later.front after is).0 e
        none_before (z ∷ before) after y is =
            let p = same_first z later.front (before ++ y ∷ after) is in
            subst (λ w. judge (reverse_aux before (w ∷ known)) y ≡ None) p.0 (later.sound before after y p.1)

  found_by : (known : List X) (x : X) (xs : List X) (fault : F) (o : Option F) → judge known x ≡ o
      → or_fault o (first_by judge (x ∷ known) xs) ≡ Some fault
      → (first_by judge (x ∷ known) xs ≡ Some fault → IsFirstBehind judge (x ∷ known) xs fault) → IsFirstBehind judge known (x ∷ xs) fault
  found_by known x xs fault None is e later = there known x xs fault is (later e)
  found_by known x xs fault (Some other) is e later = here known x xs fault (is ∙ e)

  found : (known xs : List X) (fault : F) → first_by judge known xs ≡ Some fault → IsFirstBehind judge known xs fault
  found known [] fault e = absurd cc
  found known (x ∷ xs) fault e = found_by known x xs fault (judge known x) refl e (λ h. found (x ∷ known) xs fault h)

  pub first_place : (xs : List X) (fault : F) → first_by judge [] xs ≡ Some fault → IsFirstPlace judge xs fault
  first_place xs fault e =
      let f = found [] xs fault e in
      record { front = f.front; at = f.at; back = f.back; splits = f.splits; broken = f.broken; sound = f.sound }
