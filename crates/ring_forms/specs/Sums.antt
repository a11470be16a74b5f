-- Sums of products, multiplied out. An entry is a product with a coefficient, and a product may
-- stand in several entries. Which factors count as one is told by a test.
use Rattle.std.specs.Prelude.{ℕ, suc, ◌==◌, Bool, if◌then◌else◌, List, [], ◌∷◌, ◌++◌, map, ℤ, pos, neg_ℤ, ◌+ℤ◌, ◌*ℤ◌}
use Rattle.std.specs.List.{list_all, flat_map}

abbrev pub Sum : Type 0 → Type 0
Sum X = List (ℤ × List X)

-- how often a factor stands in a product
abbrev pub times_in : {X : Type 0} → (X → X → Bool) → X → List X → ℕ
times_in same a [] = 0
times_in same a (b ∷ bs) = if same a b then suc (times_in same a bs) else times_in same a bs

-- each factor of either product stands in both equally often
abbrev pub same_product : {X : Type 0} → (X → X → Bool) → List X → List X → Bool
same_product same p q = list_all (λ a. times_in same a p == times_in same a q) (p ++ q)

-- the coefficient of a product: those of all entries with the same product together
abbrev pub coefficient : {X : Type 0} → (X → X → Bool) → List X → Sum X → ℤ
coefficient same p [] = pos 0
coefficient same p (e ∷ es) = (if same_product same p e.1 then e.0 else pos 0) +ℤ coefficient same p es

abbrev pub negated : {X : Type 0} → Sum X → Sum X
negated es = map (λ e. (neg_ℤ e.0, e.1)) es

-- a sum times a number
abbrev pub scaled : {X : Type 0} → ℤ → Sum X → Sum X
scaled c es = map (λ e. (c *ℤ e.0, e.1)) es

-- each entry of the first times each entry of the second
abbrev pub product : {X : Type 0} → Sum X → Sum X → Sum X
product es fs = flat_map (λ e. map (λ f. (e.0 *ℤ f.0, e.1 ++ f.1)) fs) es
