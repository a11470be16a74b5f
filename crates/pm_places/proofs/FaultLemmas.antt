-- The first fault of two lists of places, one behind the other.
use Rattle.std.proofs.Common.{◌≡◌, List, [], ◌∷◌, ◌++◌, Option, Some, None, refl}
use Rattle.pm_places.specs.FirstFaults.{first_fault, or_fault}

pub first_fault-append : {F : Type 0} (xs ys : List (Option F)) → first_fault (xs ++ ys) ≡ or_fault (first_fault xs) (first_fault ys)
first_fault-append [] ys = refl
first_fault-append (None ∷ xs) ys = first_fault-append xs ys
first_fault-append (Some fault ∷ xs) ys = refl
