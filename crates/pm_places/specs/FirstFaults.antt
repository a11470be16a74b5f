-- The first fault: of places in the order of a file, of two stages, and of elements each judged by those before it.
use Rattle.std.specs.Prelude.{◌≡◌, Option, Some, None, List, [], ◌∷◌, ◌++◌, reverse}

-- the first fault of a list of places in the order of the file, where None stands for a place without one
abbrev pub first_fault : {F : Type 0} → List (Option F) → Option F
first_fault [] = None
first_fault (None ∷ places) = first_fault places
first_fault (Some fault ∷ places) = Some fault

-- the first of two answers that is a fault
abbrev pub or_fault : {F : Type 0} → Option F → Option F → Option F
or_fault None later = later
or_fault (Some fault) later = Some fault

-- the first fault in a list, each judged by those before it, the latest of them first
abbrev pub first_by : {X F : Type 0} → (List X → X → Option F) → List X → List X → Option F
first_by judge before [] = None
first_by judge before (x ∷ xs) = or_fault (judge before x) (first_by judge (x ∷ before) xs)

-- The list has an element at which the fault is found, and at none before it is there a fault. Each is judged by those before it,
-- the latest of them first.
pub record IsFirstPlace {X F : Type 0} (judge : List X → X → Option F) (xs : List X) (fault : F) : Type 0 where
  pub front : List X
  pub at : X
  pub back : List X
  pub splits : xs ≡ front ++ at ∷ back
  pub broken : judge (reverse front) at ≡ Some fault
  pub sound : (before after : List X) (x : X) → front ≡ before ++ x ∷ after → judge (reverse before) x ≡ None
