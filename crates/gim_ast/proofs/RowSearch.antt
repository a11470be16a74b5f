-- The row of a name, by a search.
use Rattle.std.proofs.Common.{◌≡◌, ℕ, Bool, List, [], ◌∷◌, Some, refl, ap}
use Rattle.std.specs.Prelude.{find, if◌then◌else◌}
use Rattle.gim_ast.specs.declared.function.Function.{Function}
use Rattle.gim_ast.specs.Functions.{first_where, row_of}
use Rattle.gim_ast.specs.RulesByPart.{row_is}

first_where_find : {X : Type 0} (p : X → Bool) (xs : List X) → first_where p xs ≡ find p xs
first_where_find p [] = refl
first_where_find p (x ∷ xs) = ap (λ o. if p x then Some x else o) (first_where_find p xs)

pub row_by_find : (f : Function) (x : ℕ) → row_of f x ≡ find (row_is x) f.names
unfolding row_of
row_by_find f x = first_where_find (row_is x) f.names
