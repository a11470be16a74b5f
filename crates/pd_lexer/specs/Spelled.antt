-- What the text of a token is, and what the readers of tokens may rely on.
use Rattle.std.specs.Prelude.{◌≡◌, ◌⊎◌, ℕ, ◌<◌, ◌≤◌, ◌^◌, IsTrue, ◌&&◌, List, ◌++◌, length, codes}
use Rattle.std.specs.List.{list_all, AllByRecursion}
use Rattle.lexing.specs.Bytes.{is_digit}
use Rattle.lexing.specs.Words.{is_word_text}
use Rattle.lexing.specs.Quoted.{IsQuoted}
use Rattle.lexing.specs.Cuts as cuts
use Rattle.pm_places.specs.Spans.{text_of}
use Rattle.pd_lexer.specs.declared.token.Token.{Token}
use Rattle.pd_lexer.specs.declared.token.TokenKind.{TokenKind}
use Rattle.pd_lexer.specs.declared.token.TokenKind.TheVariants.{Ident, Number, Capture, ValueCapture, Text, Punct}
use Rattle.pd_lexer.specs.Marks.{is_mark}
use Rattle.pd_lexer.specs.Numbers.{IsNumber, number_value}
use Rattle.pd_lexer.specs.Pieces.{is_capture, is_behind_word}
use Rattle.pd_lexer.specs.Spans.{span_of}

-- the name of a capture: digits, one at least, or an identifier
abbrev pub IsName : List ℕ → Type 0
IsName name = ((0 < length name) × IsTrue (list_all is_digit name)) ⊎ IsTrue (is_word_text name)

-- a capture of these `@`
pub record IsCapture (ats text : List ℕ) : Type 0 where
  pub name : List ℕ
  pub parts : text ≡ ats ++ name
  pub named : IsName name

-- the text is one that a token of the kind may have
abbrev pub Spells : List ℕ → TokenKind → Type 0
Spells text Ident = IsTrue (is_word_text text)
Spells text Number = IsNumber text
Spells text Capture = IsCapture (codes "@") text
Spells text ValueCapture = IsCapture (codes "@@") text
Spells text Text = IsQuoted text
Spells text Punct = IsTrue (is_mark text)

-- a number is at most 2^63 - 1
abbrev pub IsSmall : List ℕ → TokenKind → Type 0
IsSmall text Number = number_value text < 2 ^ 63
IsSmall text kind = Unit {0}

-- the token stands in the source: it has bytes, they spell its kind, and it is joined as the byte before it says
pub record StandsIn (source : List ℕ) (token : Token) : Type 0 where
  pub has_bytes : token.from < token.to
  pub within : token.to ≤ length source
  pub spelled : Spells (text_of source (span_of token)) token.kind
  pub small : IsSmall (text_of source (span_of token)) token.kind
  pub joined : token.joined ≡ (is_capture token.kind && is_behind_word source token.from)

abbrev pub AllStandIn : List ℕ → List Token → Type 0
AllStandIn source tokens = AllByRecursion (StandsIn source) tokens

-- the tokens stand one behind the other, from one place to another
abbrev pub InOrder : ℕ → List Token → ℕ → Type 0
InOrder from tokens to = cuts.InOrder span_of from tokens to

-- the tokens stand in the source, one behind the other: what readers of tokens ask for
pub record AreTokensOf (source : List ℕ) (tokens : List Token) : Type 0 where
  pub stand : AllStandIn source tokens
  pub in_order : InOrder 0 tokens (length source)
