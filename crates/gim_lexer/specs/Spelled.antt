-- What the text of a token is.
use Rattle.std.specs.Prelude.{◌≡◌, ◌⊎◌, ℕ, ◌<◌, IsTrue, Some, List, ◌++◌, length, codes}
use Rattle.std.specs.List.{list_all, AllByRecursion}
use Rattle.gim_ast.specs.Identifiers.{is_identifier, is_block_word}
use Rattle.lexing.specs.Bytes.{is_digit, is_suffix_letter}
use Rattle.gim_text.specs.declared.token.Token.{Token}
use Rattle.gim_text.specs.declared.token.Token.TheVariants as tokens
use Rattle.gim_text.specs.declared.token.NumberKind.{NumberKind}
use Rattle.gim_text.specs.Meanings.{span_of}
use Rattle.lexing.specs.Cuts as cuts
use Rattle.lexing.specs.Quoted.{IsQuoted}
use Rattle.lexing.specs.Tables.{beside}
use Rattle.gim_lexer.specs.Words.{type_word_of, keyword_of}
use Rattle.gim_lexer.specs.Numbers.{number_kind}
use Rattle.gim_lexer.specs.Marks.{short_marks, long_marks}

-- one digit or more, and then a suffix
pub record IsNumber (kind : NumberKind) (text : List ℕ) : Type 0 where
  pub digits : List ℕ
  pub suffix : List ℕ
  pub some_digit : 0 < length digits
  pub parts : text ≡ digits ++ suffix
  pub are_digits : IsTrue (list_all is_digit digits)
  pub are_letters : IsTrue (list_all is_suffix_letter suffix)
  pub is_kind : number_kind digits suffix ≡ kind

-- the text is one that the token may have, wherever it stands
abbrev pub Spells : List ℕ → Token → Type 0
Spells text (tokens.TypeWord word at) = type_word_of text ≡ Some word
Spells text (tokens.Keyword word at) = keyword_of text ≡ Some word
Spells text (tokens.BlockWord at) = IsTrue (is_block_word text)
Spells text (tokens.Ssa at) = text ≡ codes "ssa"
Spells text (tokens.Identifier at) = IsTrue (is_identifier text)
Spells text (tokens.Number kind at) = IsNumber kind text
Spells text (tokens.Text at) = IsQuoted text
Spells text (tokens.Mark mark at) = (beside text long_marks ≡ Some mark) ⊎ (beside text short_marks ≡ Some mark)

-- the token stands in the source, and its text spells it
abbrev pub StandsIn : List ℕ → Token → Type 0
StandsIn source token = cuts.StandsIn Spells span_of source token

abbrev pub AllStandIn : List ℕ → List Token → Type 0
AllStandIn source tokens = AllByRecursion (StandsIn source) tokens

-- the tokens stand one behind the other, from one place to another
abbrev pub InOrder : ℕ → List Token → ℕ → Type 0
InOrder from tokens to = cuts.InOrder span_of from tokens to
