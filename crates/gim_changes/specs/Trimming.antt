-- Trimming: the rows of `names` whose names stand nowhere go.
use Rattle.std.specs.Prelude.{ℕ, ◌==◌, Bool, true, false, ◌||◌, List, [], ◌∷◌, filter}
use Rattle.std.specs.List.{list_any}
use Rattle.gim_ast.specs.declared.function.Function.{Function}
use Rattle.gim_ast.specs.declared.function.NameRow.{NameRow}
use Rattle.gim_ast.specs.Functions.{assigned, is_used}
use Rattle.gim_changes.specs.Removal.{pruned}

-- a phi or a statement assigns the name, or an operand is it
abbrev pub stands_in : Function → ℕ → Bool
stands_in f x = list_any (λ y. y == x) (assigned f) || is_used f x

abbrev pub is_empty_text : List ℕ → Bool
is_empty_text [] = true
is_empty_text (b ∷ bs) = false

-- the row is kept: its name stands somewhere, or is an anonymous one, which is declared
abbrev pub row_stays : Function → NameRow → Bool
row_stays f row = stands_in f row.version || is_empty_text row.base

unfoldable pub trimmed : Function → Function
trimmed f = record f { names = filter (row_stays f) f.names }

-- what is unused is gone, and its rows of `names` with it
abbrev pub tidied : Function → Function
tidied f = trimmed (pruned f)
