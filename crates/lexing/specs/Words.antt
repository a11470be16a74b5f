-- Words.
use Rattle.std.specs.Prelude.{ℕ, Bool, false, ◌&&◌, List, [], ◌∷◌}
use Rattle.std.specs.List.{list_all}
use Rattle.lexing.specs.Bytes.{is_letter, is_word_byte}

-- letters, digits and underscores, not beginning with a digit
abbrev pub is_word_text : List ℕ → Bool
is_word_text [] = false
is_word_text (b ∷ bs) = is_letter b && list_all is_word_byte bs
