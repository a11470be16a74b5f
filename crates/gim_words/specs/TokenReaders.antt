-- Readers of single tokens on lists of tokens, and of what stands in parentheses and is dropped. They stand between code
-- and grammar: the contracts above rest on the grammar and the faults alone.
use Rattle.std.specs.Prelude.{ℕ, zero, suc, Bool, true, false, List, [], ◌∷◌, Option, Some, None, Ok, Err}
use Rattle.grammar.specs.Reading.{Answer, meant_at}
use Rattle.pm_places.specs.declared.span.Span.{Span}
use Rattle.gim_text.specs.declared.token.Token.{Token}
use Rattle.gim_text.specs.declared.token.Token.TheVariants as tokens
use Rattle.gim_text.specs.declared.token.Keyword.{Keyword}
use Rattle.gim_text.specs.declared.token.Mark.{Mark}
use Rattle.gim_text.specs.declared.token.Mark.TheVariants as marks
use Rattle.gim_text.specs.Meanings.{mark, keyword, identifier, block_word}
use Rattle.gim_words.specs.Tokens.{plain_number}

-- what a token means and the rest after it, or a fault at all the tokens
abbrev pub meant_or : List Token → List Token → Option Span → Answer Token (Unit {0}) Span
meant_or input rest None = Err (tt, input)
meant_or input rest (Some at) = Ok (at, rest)

abbrev pub mark_at : Mark → List Token → Answer Token (Unit {0}) Span
mark_at asked input = meant_at (mark asked) tt input

abbrev pub keyword_at : Keyword → List Token → Answer Token (Unit {0}) Span
keyword_at asked input = meant_at (keyword asked) tt input

abbrev pub name_at : List Token → Answer Token (Unit {0}) Span
name_at input = meant_at identifier tt input

abbrev pub block_word_at : List Token → Answer Token (Unit {0}) Span
block_word_at input = meant_at block_word tt input

abbrev pub plain_number_at : List Token → Answer Token (Unit {0}) Span
plain_number_at input = meant_at plain_number tt input

-- the `)` that closes what was opened before, within this many parentheses more
abbrev pub closing_within : ℕ → List Token → Answer Token (Unit {0}) Span
closing_within depth [] = Err (tt, [])
closing_within depth (tokens.Mark marks.Open at ∷ rest) = closing_within (suc depth) rest
closing_within zero (tokens.Mark marks.Close at ∷ rest) = Ok (at, rest)
closing_within (suc depth) (tokens.Mark marks.Close at ∷ rest) = closing_within depth rest
closing_within depth (t ∷ rest) = closing_within depth rest

abbrev pub closing_at : List Token → Answer Token (Unit {0}) Span
closing_at input = closing_within zero input

-- a further item of a list with commas begins so
abbrev pub is_comma : Token → Bool
is_comma (tokens.Mark marks.Comma at) = true
is_comma token = false
