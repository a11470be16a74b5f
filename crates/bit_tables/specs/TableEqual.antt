-- Equality of terms of the class under every assignment of words.
use Rattle.std.specs.Prelude.{ℕ, ◌≡◌, ◌≢◌, ◌<◌, ◌^◌}
use Rattle.pm_wide.specs.Types.{Ty}
use Rattle.pm_term.specs.Trees.{Tree, type_of}
use Rattle.bit_tables.specs.TableClass.{AreInClass}
use Rattle.bit_tables.specs.WrappedWords.{wrapped_word}

-- each name has a word of its type
abbrev pub GivesWords : (ℕ → Ty → ℕ) → Type 0
GivesWords words = (version : ℕ) (ty : Ty) → words version ty < 2 ^ ty.width

-- the terms agree modulo 2 to their width, whatever the words of names
abbrev pub AgreeEverywhere : Tree → Tree → Type 0
AgreeEverywhere left right =
    (words : ℕ → Ty → ℕ) → GivesWords words
    → wrapped_word words (type_of left).width left ≡ wrapped_word words (type_of left).width right

-- some words of names make a difference
abbrev pub DifferSomewhere : Tree → Tree → Type 0
DifferSomewhere left right =
    (words : ℕ → Ty → ℕ) × GivesWords words
    × (wrapped_word words (type_of left).width left ≢ wrapped_word words (type_of left).width right)

abbrev pub AreTableEqual : Tree → Tree → Type 0
AreTableEqual left right = AreInClass left right × AgreeEverywhere left right

abbrev pub AreTableDifferent : Tree → Tree → Type 0
AreTableDifferent left right = AreInClass left right × DifferSomewhere left right
