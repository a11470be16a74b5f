-- Kinds of bytes.
use Rattle.std.specs.Prelude.{ℕ, ◌==◌, nat_le, Bool, not, ◌&&◌, ◌||◌}

abbrev pub is_digit : ℕ → Bool
is_digit b = nat_le 48 b && nat_le b 57

-- a letter or an underscore
abbrev pub is_letter : ℕ → Bool
is_letter b = (nat_le 65 b && nat_le b 90) || (nat_le 97 b && nat_le b 122) || (b == 95)

abbrev pub is_word_byte : ℕ → Bool
is_word_byte b = is_letter b || is_digit b

-- a letter of the suffixes of numbers: `u`, `U`, `l` or `L`
abbrev pub is_suffix_letter : ℕ → Bool
is_suffix_letter b = (b == 117) || (b == 85) || (b == 108) || (b == 76)

-- a byte that a text may hold between its two `"`
abbrev pub is_inner : ℕ → Bool
is_inner b = not (b == 34) && not (b == 10)
