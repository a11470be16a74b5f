-- What the grammar and the names may rely on: the text of a token that means an identifier, a block or a number.
use Rattle.std.specs.Prelude.{◌≡◌, ℕ, IsTrue, Some, List}
use Rattle.std.specs.List.{AllByRecursion}
use Rattle.gim_ast.specs.Identifiers.{is_identifier, is_block_word}
use Rattle.lexing.specs.Numbers.{is_number_text, leading_digits}
use Rattle.pm_places.specs.declared.span.Span.{Span}
use Rattle.gim_text.specs.declared.token.Token.{Token}
use Rattle.gim_text.specs.declared.token.NumberKind.{NumberKind}
use Rattle.gim_text.specs.declared.token.NumberKind.TheVariants.{Plain, Wrong}
use Rattle.gim_text.specs.Meanings.{identifier, block_word, number}
use Rattle.pm_places.specs.Spans.{text_of}

-- digits without a leading zero, and nothing else where the number has no suffix
abbrev pub IsNumberText : NumberKind → List ℕ → Type 0
IsNumberText Plain text = IsTrue (is_number_text text) × (leading_digits text ≡ text)
IsNumberText Wrong text = Unit {0}
IsNumberText kind text = IsTrue (is_number_text (leading_digits text))

pub record MeansItsText (source : List ℕ) (token : Token) : Type 0 where
  pub identifiers : (span : Span) → identifier token ≡ Some span → IsTrue (is_identifier (text_of source span))
  pub blocks : (span : Span) → block_word token ≡ Some span → IsTrue (is_block_word (text_of source span))
  pub numbers : (kind : NumberKind) (span : Span) → number token ≡ Some (kind, span) → IsNumberText kind (text_of source span)

abbrev pub AllMeanTheirTexts : List ℕ → List Token → Type 0
AllMeanTheirTexts source tokens = AllByRecursion (MeansItsText source) tokens
