-- Lists of places without a fault.
use Rattle.std.proofs.Common.{◌≡◌, List, [], ◌∷◌, ◌++◌, Option, Some, None, refl, sym, ap, ◌∙◌, inl, inr}
use Rattle.std.specs.List.{flat_map}
use Rattle.gim_text.specs.declared.fault.GimpleFault.{GimpleFault}
use Rattle.pm_places.specs.FirstFaults.{first_fault, or_fault}
use Rattle.pm_places.proofs.FaultLemmas.{first_fault-append}
use Rattle.gim_text.proofs.Membership.{Has}
use Rattle.gim_shape.proofs.Judging.{none_first}

pub none_joined : (xs ys : List (Option GimpleFault)) → first_fault xs ≡ None → first_fault ys ≡ None → first_fault (xs ++ ys) ≡ None
none_joined xs ys none_first none_later = first_fault-append xs ys ∙ ap (λ o. or_fault o (first_fault ys)) none_first ∙ none_later

pub none_of_each : {X : Type 0} (f : X → List (Option GimpleFault)) (xs : List X) → ((x : X) → Has xs x → first_fault (f x) ≡ None)
    → first_fault (flat_map f xs) ≡ None
none_of_each f [] each = refl
none_of_each f (x ∷ xs) each = none_joined (f x) (flat_map f xs) (each x (inl refl)) (none_of_each f xs (λ y there. each y (inr there)))

-- no place has a fault
pub no_fault : (places : List (Option GimpleFault)) → first_fault places ≡ None → (place : Option GimpleFault) → Has places place
    → place ≡ None
no_fault [] none place h = absurd h
no_fault (p ∷ places) none place (inl same) = sym same ∙ (none_first p places none).0
no_fault (p ∷ places) none place (inr h) = no_fault places (none_first p places none).1 place h

pub none_at_each : (places : List (Option GimpleFault)) → ((place : Option GimpleFault) → Has places place → place ≡ None)
    → first_fault places ≡ None
none_at_each [] each = refl
none_at_each (None ∷ places) each = none_at_each places (λ place there. each place (inr there))
none_at_each (Some fault ∷ places) each = absurd (let e = each (Some fault) (inl refl) in cc)
