-- A choice from each of several lists, the choice from the first list slowest.
use Rattle.std.specs.Prelude.{List, [], ◌∷◌, ◌++◌}

-- this front, followed by each of these
abbrev pub one_followed : {A : Type 0} → List A → List A → List (List A)
one_followed front [] = []
one_followed front (x ∷ xs) = (front ++ x ∷ []) ∷ one_followed front xs

-- each front, followed by each of these
abbrev pub followed : {A : Type 0} → List (List A) → List A → List (List A)
followed [] xs = []
followed (front ∷ fronts) xs = one_followed front xs ++ followed fronts xs

-- each front, followed by a choice from each list
abbrev pub choices_behind : {A : Type 0} → List (List A) → List (List A) → List (List A)
choices_behind fronts [] = fronts
choices_behind fronts (xs ∷ xss) = choices_behind (followed fronts xs) xss

-- a choice from each list
abbrev pub choices : {A : Type 0} → List (List A) → List (List A)
choices xss = choices_behind ([] ∷ []) xss
