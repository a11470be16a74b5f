-- Words that have a bit at one place at most.
use Rattle.std.specs.Prelude.{ℕ, ◌≡◌, ◌/◌, ◌%◌, ◌^◌, ◌<◌, ◌==◌, ◌++◌, ◌&&◌, length, if◌then◌else◌, List, [], ◌∷◌}
use Rattle.std.specs.Set.{is_member}
use Rattle.pm_wide.specs.Types.{Ty, same_type}
use Rattle.pm_term.specs.Trees.{Tree}
use Rattle.bit_tables.specs.TableClass.{same_name}
use Rattle.bit_tables.specs.WrappedWords.{wrapped_word}

-- the word of a name at a place: of the first such name in the list, by the bits of `mask` from the
-- lowest on
abbrev pub spot_word : List (ℕ × Ty) → ℕ → ℕ → ℕ → Ty → ℕ
spot_word [] place mask version ty = 0
spot_word (n ∷ ns) place mask version ty =
    if n.0 == version && same_type n.1 ty then (if mask % 2 == 1 then 2 ^ place else 0) else spot_word ns place (mask / 2) version ty

-- names with one more, unless it is there
abbrev pub with_name : List (ℕ × Ty) → ℕ × Ty → List (ℕ × Ty)
with_name known n = if is_member same_name known n then known else known ++ n ∷ []

-- and with all of a list
abbrev pub with_names : List (ℕ × Ty) → List (ℕ × Ty) → List (ℕ × Ty)
with_names known [] = known
with_names known (n ∷ ns) = with_names (with_name known n) ns

-- the terms have one word where the mask says which of the names have their bit at the place
abbrev pub AgreeAt : Tree → Tree → ℕ → List (ℕ × Ty) → ℕ → ℕ → Type 0
AgreeAt left right width names place mask =
    wrapped_word (spot_word names place mask) width left ≡ wrapped_word (spot_word names place mask) width right

-- that holds of every mask
abbrev pub AgreeAtPlace : Tree → Tree → ℕ → List (ℕ × Ty) → ℕ → Type 0
AgreeAtPlace left right width names place =
    (mask : ℕ) → mask < 2 ^ length names → AgreeAt left right width names place mask

-- and fails of one
abbrev pub DifferAtPlace : Tree → Tree → ℕ → List (ℕ × Ty) → ℕ → Type 0
DifferAtPlace left right width names place = (mask : ℕ) × ¬ AgreeAt left right width names place mask
