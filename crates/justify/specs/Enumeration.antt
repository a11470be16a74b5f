-- Two terms of few names, tried out under all words of these.
use Rattle.std.specs.Prelude.{ℕ, ◌+◌, ◌≤◌, ◌≡◌, Some, List, [], ◌∷◌, ◌++◌}
use Rattle.pm_wide.specs.Types.{Ty, Word}
use Rattle.pm_term.specs.Environments.{GivesWords}
use Rattle.pm_term.specs.Refines.{HasValues}
use Rattle.pm_term.specs.Terms.{term_value}
use Rattle.pm_term.specs.Trees.{Tree, names_in}
use Rattle.bit_tables.specs.Spots.{with_names}

-- the names of both terms, each once: a version at two types is two names
abbrev pub names_of_both : Tree → Tree → List (ℕ × Ty)
names_of_both left right = with_names [] (names_in left ++ names_in right)

abbrev pub bits_of : List (ℕ × Ty) → ℕ
bits_of [] = 0
bits_of (n ∷ ns) = n.1.width + bits_of ns

-- under all words under which `left` has a value: each node of `right` has one, and the whole that of
-- `left`
abbrev pub AgreeWhereDefined : Tree → Tree → Type 0
AgreeWhereDefined left right =
    (words : ℕ → Ty → Word) (r : Word) → GivesWords words → term_value words left ≡ Some r
    → HasValues words right × (term_value words right ≡ Some r)

-- the names of both have at most 12 bits together
abbrev pub AreEnumerated : Tree → Tree → Type 0
AreEnumerated left right = (bits_of (names_of_both left right) ≤ 12) × AgreeWhereDefined left right
