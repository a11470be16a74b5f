-- The words of a command line: the command, positional words, and options behind them.
use Rattle.std.specs.Prelude.{ℕ, ◌+◌, ◌==◌, if◌then◌else◌, Bool, true, false, ◌&&◌, List, [], ◌∷◌, take, drop}

-- an option begins with `--`
abbrev pub is_option : List ℕ → Bool
is_option (a ∷ b ∷ rest) = (a == 45) && (b == 45)
is_option word = false

-- a positional word that names something isn't empty
abbrev pub is_name : List ℕ → Bool
is_name [] = false
is_name (a ∷ rest) = true

-- the words are cut at the first option
abbrev pub first_option : List (List ℕ) → ℕ
first_option [] = 0
first_option (word ∷ words) = if is_option word then 0 else first_option words + 1

abbrev pub positional : List (List ℕ) → List (List ℕ)
positional words = take (first_option words) words

abbrev pub option_words : List (List ℕ) → List (List ℕ)
option_words words = drop (first_option words) words
