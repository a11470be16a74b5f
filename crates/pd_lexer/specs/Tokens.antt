-- The token that begins a text, as long as it can be: its kind, and how many bytes it has.
use Rattle.std.specs.Prelude.{ℕ, ◌+◌, ◌==◌, option_map, Option, Some, None, List, [], ◌∷◌, drop, codes, if◌then◌else◌}
use Rattle.std.specs.List.{prefix_len}
use Rattle.lexing.specs.Bytes.{is_digit, is_letter, is_word_byte}
use Rattle.lexing.specs.Quoted.{quoted_length}
use Rattle.lexing.specs.Separators.{opens}
use Rattle.pd_lexer.specs.declared.token.TokenKind.{TokenKind}
use Rattle.pd_lexer.specs.declared.token.TokenKind.TheVariants.{Ident, Number, Capture, ValueCapture, Text, Punct}
use Rattle.pd_lexer.specs.Marks.{mark_length}
use Rattle.pd_lexer.specs.Numbers.{number_length}

-- the name of a capture: digits, or an identifier
unfoldable pub name_length : List ℕ → ℕ
name_length [] = 0
name_length (b ∷ text) = if is_digit b then prefix_len is_digit (b ∷ text) else prefix_len is_word_byte (b ∷ text)

-- a capture of one `@` or two and a name. One without a name is none
abbrev pub capture_of : TokenKind → ℕ → ℕ → Option (TokenKind × ℕ)
capture_of kind ats name = if name == 0 then None else Some (kind, ats + name)

-- the capture whose first `@` the text stands behind
unfoldable pub capture_front : List ℕ → Option (TokenKind × ℕ)
capture_front text =
    if opens text (codes "@") then capture_of ValueCapture 2 (name_length (drop 1 text))
    else capture_of Capture 1 (name_length text)

unfoldable pub token_front : List ℕ → Option (TokenKind × ℕ)
token_front [] = None
token_front (b ∷ text) =
    if is_letter b then Some (Ident, prefix_len is_word_byte (b ∷ text))
    else (if is_digit b then Some (Number, number_length (b ∷ text))
    else (if b == 34 then option_map (λ n. (Text, n)) (quoted_length text)
    else (if b == 64 then capture_front text
    else option_map (λ n. (Punct, n)) (mark_length (b ∷ text)))))
