-- Texts joined and enclosed.
use Rattle.std.specs.Prelude.{ℕ, List, [], ◌++◌, Option, Some, None, codes}
use Rattle.std.specs.List.{flat_map, join_by}

-- with a space before it
abbrev pub spaced : List ℕ → List ℕ
spaced text = codes " " ++ text

-- each with a space before it
abbrev pub all_spaced : List (List ℕ) → List ℕ
all_spaced texts = flat_map spaced texts

-- a text that may be absent, with a space before it
abbrev pub maybe_spaced : Option (List ℕ) → List ℕ
maybe_spaced None = []
maybe_spaced (Some text) = spaced text

-- with a comma and a space between two
abbrev pub listed : List (List ℕ) → List ℕ
listed texts = join_by (λ text. text) (codes ", ") texts

-- with a comma and a space behind it
abbrev pub before_comma : List ℕ → List ℕ
before_comma text = text ++ codes ", "

abbrev pub in_parentheses : List ℕ → List ℕ
in_parentheses text = codes "(" ++ text ++ codes ")"
