-- Searches over joined lists.
use Rattle.std.proofs.Common.{◌≡◌, ℕ, Bool, List, [], ◌∷◌, ◌++◌, Option, Some, None, refl, ap}
use Rattle.std.specs.Prelude.{if◌then◌else◌, find}
use Rattle.gim_ast.specs.declared.function.Function.{Function}
use Rattle.gim_ast.specs.Functions.{first_where, row_of}
use Rattle.first_rewriting.specs.Rows.{row_is}
use Rattle.first_rewriting.specs.Rewriting.{first_some, or_else}

module _ {X Y : Type 0} where
  pub first_some_append : (f : X → Option Y) (xs ys : List X) → first_some f (xs ++ ys) ≡ or_else (first_some f xs) (first_some f ys)
  first_some_append f [] ys = refl
  first_some_append f (x ∷ xs) ys =
      elim (f x) as (λ o. or_else o (first_some f (xs ++ ys))
      ≡ or_else (or_else o (first_some f xs)) (first_some f ys)) [ Some y ↦ refl | None ↦ first_some_append f xs ys ]

first_where_find : {X : Type 0} (p : X → Bool) (xs : List X) → first_where p xs ≡ find p xs
first_where_find p [] = refl
first_where_find p (x ∷ xs) = ap (λ o. if p x then Some x else o) (first_where_find p xs)

pub row_by_find : (f : Function) (x : ℕ) → row_of f x ≡ find (row_is x) f.names
unfolding row_of
row_by_find f x = first_where_find (row_is x) f.names
