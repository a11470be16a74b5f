-- Judging places one after the other.
use Rattle.std.proofs.Common.{◌≡◌, ℕ, ◌+◌, ◌<◌, List, [], ◌∷◌, ◌++◌, length, get_or, drop}
use Rattle.std.proofs.Common.{Option, Some, None, Result, Ok, Err, refl, sym, ap, ◌∙◌}
use Rattle.std.specs.Prelude.{IsErr, IsErrAnd}
use Rattle.std.specs.List.{AllByRecursion, flat_map}
use Rattle.std.proofs.lemmas.List.Concat.{flat_map-cons}
use Rattle.gim_text.proofs.FrontsAndRests.{drop_step}
use Rattle.gim_text.specs.declared.fault.GimpleFault.{GimpleFault}
use Rattle.gim_text.specs.declared.fault.GimpleKind.{GimpleKind}
use Rattle.gim_text.specs.declared.fault.GimpleKind.TheVariants.{Memory}
use Rattle.gim_text.specs.Faults.{IsFault, Judges}
use Rattle.pm_places.specs.FirstFaults.{first_fault}
use Rattle.pm_places.proofs.FaultLemmas.{first_fault-append}

pub fault_along : (kind : GimpleKind) (fault : GimpleFault) (a b : Option GimpleFault)
    → (a ≡ Some fault → b ≡ Some fault) → IsFault kind fault a → IsFault kind fault b
fault_along Memory fault a b h is = tt
fault_along _ fault a b h is = h is

-- a fault among the first places, and a judgement of the others after places without one
pub front : (xs ys : List (Option GimpleFault)) (fault : GimpleFault) → IsFault fault.kind fault (first_fault xs)
    → IsFault fault.kind fault (first_fault (xs ++ ys))
front xs ys fault is =
    fault_along fault.kind fault (first_fault xs) (first_fault (xs ++ ys)) (λ e. rw (first_fault-append xs ys, e) refl)
    is

pub behind : {X : Type 0} (xs ys : List (Option GimpleFault)) (r : Result X GimpleFault) → first_fault xs ≡ None
    → Judges (first_fault ys) r → Judges (first_fault (xs ++ ys)) r
behind xs ys r free judges = rw (first_fault-append xs ys, free) judges

-- the first element of which the places have a fault
pub front_of : {X : Type 0} (f : X → List (Option GimpleFault)) (xs : List X) (i : ℕ) (x : X)
    (total : Option GimpleFault) (fault : GimpleFault) → i < length xs → x ≡ get_or xs i x
    → first_fault (flat_map f (drop i xs)) ≡ total → IsFault fault.kind fault (first_fault (f x)) → IsFault fault.kind fault total
front_of f xs i x total fault lt is so_far found =
    rw (← so_far, drop_step xs i x lt is, flat_map-cons f x (drop (i + 1) xs)) (front (f x) (flat_map f (drop (i + 1) xs)) fault found)

pub behind_of : {X : Type 0} (f : X → List (Option GimpleFault)) (xs : List X) (i : ℕ) (x : X)
    (total : Option GimpleFault) → i < length xs → x ≡ get_or xs i x
    → first_fault (flat_map f (drop i xs)) ≡ total → first_fault (f x) ≡ None → first_fault (flat_map f (drop (i + 1) xs)) ≡ total
behind_of f xs i x total lt is so_far free =
    let step : first_fault (flat_map f (drop i xs)) ≡ first_fault (flat_map f (drop (i + 1) xs)) =
    rw (drop_step xs i x lt is, flat_map-cons f x (drop (i + 1) xs), first_fault-append (f x) (flat_map f (drop (i + 1) xs)), free) refl in
    sym step ∙ so_far

-- what a `?` hands out of a callee's fault
pub passed_on : {X : Type 0} (total : Option GimpleFault) (fault : GimpleFault) (r : Result X GimpleFault) → IsErr r
    × IsErrAnd r (λ e. e ≡ fault) → IsFault fault.kind fault total → Judges total r
passed_on total fault (Ok x) h is = let no = h.0 in absurd cc
passed_on total fault (Err e) h is = rw (h.1) is

-- ---- no fault

pub none_first : (place : Option GimpleFault) (rest : List (Option GimpleFault)) → first_fault (place ∷ rest) ≡ None
    → (place ≡ None) × (first_fault rest ≡ None)
none_first None rest free = (refl, free)
none_first (Some fault) rest free = absurd cc

pub none_parts : (xs ys : List (Option GimpleFault)) → first_fault (xs ++ ys) ≡ None → (first_fault xs ≡ None) × (first_fault ys ≡ None)
none_parts [] ys free = (refl, free)
none_parts (None ∷ xs) ys free = none_parts xs ys free
none_parts (Some fault ∷ xs) ys free = absurd cc

pub none_of_all : {X : Type 0} (f : X → List (Option GimpleFault)) (P : X → Type 0)
    → ((x : X) → first_fault (f x) ≡ None → P x) → (xs : List X)
    → first_fault (flat_map f xs) ≡ None → AllByRecursion P xs
none_of_all f P holds [] free = tt
none_of_all f P holds (x ∷ xs) free =
    let p = none_parts (f x) (flat_map f xs) (ap first_fault (sym (flat_map-cons f x xs)) ∙ free) in
    (holds x p.0, none_of_all f P holds xs p.1)
