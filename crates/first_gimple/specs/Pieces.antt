-- A text cut into its tokens, from the right to the left.
use Rattle.std.specs.Prelude.{ℕ, ◌&&◌, List, [], ◌∷◌, if◌then◌else◌}
use Rattle.lexing.specs.Bytes.{is_word_byte}
use Rattle.first_gimple.specs.Tokens.{Token, is_space, begins_with_word_byte}

-- the tokens with one byte more at the head of the first
abbrev pub lengthened : ℕ → List Token → List Token
lengthened b [] = (b ∷ []) ∷ []
lengthened b (token ∷ tokens) = (b ∷ token) ∷ tokens

-- the tokens of a text: a word byte before another belongs to the token of that one
unfoldable pub tokens_of : List ℕ → List Token
tokens_of [] = []
tokens_of (b ∷ bytes) =
    if is_space b then tokens_of bytes
    else (if is_word_byte b && begins_with_word_byte bytes then lengthened b (tokens_of bytes) else (b ∷ []) ∷ tokens_of bytes)
