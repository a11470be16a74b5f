-- The token that begins a text, as long as it can be.
use Rattle.std.specs.Prelude.{ℕ, ◌+◌, ◌==◌, option_map, Option, Some, None, List, [], ◌∷◌, take, drop, codes, if◌then◌else◌}
use Rattle.std.specs.List.{prefix_len}
use Rattle.lexing.specs.Bytes.{is_digit, is_letter, is_word_byte, is_suffix_letter}
use Rattle.pm_places.specs.Spans.{place}
use Rattle.gim_text.specs.declared.token.Token.{Token}
use Rattle.gim_text.specs.declared.token.Token.TheVariants.{Number, Text, Mark}
use Rattle.gim_text.specs.declared.token.Mark.{Mark as MarkKind}
use Rattle.lexing.specs.Quoted.{quoted_length}
use Rattle.lexing.specs.Separators.{opens}
use Rattle.gim_lexer.specs.Words.{word_token}
use Rattle.gim_lexer.specs.Numbers.{number_kind}
use Rattle.gim_lexer.specs.Marks.{short_mark, long_mark}

-- all word bytes at the front
unfoldable pub word_at : ℕ → List ℕ → Token
word_at at text =
    let n = prefix_len is_word_byte text in
    word_token (take n text) (place at n)

-- all digits at the front, and all letters of suffixes behind them
unfoldable pub number_at : ℕ → List ℕ → Token
number_at at text =
    let n = prefix_len is_digit text in
    let rest = drop n text in
    let m = prefix_len is_suffix_letter rest in
    Number (number_kind (take n text) (take m rest)) (place at (n + m))

-- behind a `"`: what stands up to the next one on the same line
unfoldable pub text_at : ℕ → List ℕ → Option Token
text_at at rest = option_map (λ n. Text (place at n)) (quoted_length rest)

-- two bytes that are a mark, or else one
abbrev pub mark_from : ℕ → Option MarkKind → Option MarkKind → Option Token
mark_from at (Some long) short = Some (Mark long (place at 2))
mark_from at None (Some short) = Some (Mark short (place at 1))
mark_from at None None = None

unfoldable pub mark_at : ℕ → List ℕ → Option Token
mark_at at [] = None
mark_at at (a ∷ []) = mark_from at None (short_mark a)
mark_at at (a ∷ b ∷ text) = mark_from at (long_mark a b) (short_mark a)

-- The token that stands at the front of a text, if any does, where the text begins at place `at`. `/*` begins none, so nothing
-- begins at a comment without its end
unfoldable pub token_of_text : ℕ → List ℕ → Option Token
token_of_text at [] = None
token_of_text at (b ∷ text) =
    if is_letter b then Some (word_at at (b ∷ text))
    else (if is_digit b then Some (number_at at (b ∷ text))
    else (if b == 34 then text_at at text
    else (if opens (b ∷ text) (codes "/*") then None else mark_at at (b ∷ text))))
