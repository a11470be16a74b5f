-- What separates tokens, as the number of bytes that it takes at the front of a text: white space, lines and comments.
use Rattle.std.specs.Prelude.{ℕ, ◌+◌, ◌==◌, nat_le, Bool, false, not, ◌&&◌, ◌||◌, Option, Some, None, option_map, List, [], ◌∷◌, drop, codes, if◌then◌else◌}
use Rattle.std.specs.List.{prefix_len, starts_with}
use Rattle.pm_places.specs.Places.{is_line_feed}

-- white space: the bytes 9 to 13 and 32
abbrev pub is_space : ℕ → Bool
is_space b = (nat_le 9 b && nat_le b 13) || (b == 32)

abbrev pub begins_with_space : List ℕ → Bool
begins_with_space [] = false
begins_with_space (b ∷ text) = is_space b

-- the text begins with these bytes
abbrev pub opens : List ℕ → List ℕ → Bool
opens text bytes = starts_with ◌==◌ text bytes

abbrev pub is_no_line_feed : ℕ → Bool
is_no_line_feed b = not (is_line_feed b)

-- the bytes of a line, without the line feed at its end
abbrev pub line_length : List ℕ → ℕ
line_length text = prefix_len is_no_line_feed text

-- the bytes up to the end of the first `*/`, where there is one
unfoldable pub length_to_star_slash : List ℕ → Option ℕ
length_to_star_slash [] = None
length_to_star_slash (b ∷ text) = if opens (b ∷ text) (codes "*/") then Some 2 else option_map (λ n. 1 + n) (length_to_star_slash text)

-- a comment: `/*` up to the first `*/` behind it. One without its end is none
abbrev pub comment_length : List ℕ → Option ℕ
comment_length text = if opens text (codes "/*") then option_map (λ n. 2 + n) (length_to_star_slash (drop 2 text)) else None
