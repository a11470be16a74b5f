-- The lists of a function that got a new statement.
use Rattle.std.proofs.Common.{◌≡◌, ℕ, zero, suc, List, [], ◌∷◌, ◌++◌, length, take, Some, slice_get, slice_set, refl, ap}
use Rattle.gim_changes.specs.Insertion.{changed_at}

-- what was put behind a list is cut off again
pub front_again : {X : Type 0} (xs ys : List X) → take (length xs) (xs ++ ys) ≡ xs
front_again [] ys = refl
front_again (x ∷ xs) ys = ap (λ zs. x ∷ zs) (front_again xs ys)

-- a changed element is written to its place
pub set_changed : {X : Type 0} (place : ℕ) (change : X → X) (xs : List X) (x : X) → slice_get xs place ≡ Some x → slice_set xs place (change x) ≡ changed_at place change xs
set_changed place change [] x is = refl
set_changed zero change (y ∷ xs) x is = let same : y ≡ x = cc in rw same refl
set_changed (suc place) change (y ∷ xs) x is = ap (λ zs. y ∷ zs) (set_changed place change xs x is)
