-- The tokens of a text of the first form. A token is its bytes: a run of letters, digits and underscores (an identifier, or
-- a number with its suffix), or one other byte, a mark.
use Rattle.std.specs.Prelude.{◌≡◌, ℕ, ◌==◌, nat_le, Bool, false, not, ◌&&◌, ◌||◌, IsTrue, List, [], ◌∷◌, ◌++◌}
use Rattle.std.specs.List.{list_all}
use Rattle.lexing.specs.Bytes.{is_word_byte}

abbrev pub Token : Type 0
Token = List ℕ

-- white space: the bytes 9 to 13 and 32
abbrev pub is_space : ℕ → Bool
is_space b = (nat_le 9 b && nat_le b 13) || (b == 32)

-- nothing, or white space alone
abbrev pub is_gap : List ℕ → Bool
is_gap bytes = list_all is_space bytes

-- a byte that is a token of its own
abbrev pub is_mark : ℕ → Bool
is_mark b = not (is_space b) && not (is_word_byte b)

abbrev pub is_token : Token → Bool
is_token [] = false
is_token (b ∷ []) = is_word_byte b || is_mark b
is_token (b ∷ c ∷ bytes) = is_word_byte b && is_word_byte c && list_all is_word_byte bytes

abbrev pub begins_with_word_byte : List ℕ → Bool
begins_with_word_byte [] = false
begins_with_word_byte (b ∷ bytes) = is_word_byte b

-- The token is as long as it can be: no word byte follows a run of them.
abbrev pub ends_before : Token → List ℕ → Bool
ends_before token rest = not (begins_with_word_byte token && begins_with_word_byte rest)

-- The bytes are these tokens, in order, with white space between any two of them, before the first and behind the last; two
-- runs of word bytes have some between them.
abbrev pub SpellsTokens : List ℕ → List Token → Type 0
SpellsTokens bytes [] = IsTrue (is_gap bytes)
SpellsTokens bytes (token ∷ tokens) = (gap : List ℕ) × (rest : List ℕ)
    × IsTrue (is_gap gap) × IsTrue (is_token token) × IsTrue (ends_before token rest)
    × (bytes ≡ gap ++ (token ++ rest)) × SpellsTokens rest tokens
