-- What one token means where the grammar asks for a mark, a word, a name or a number.
use Rattle.std.specs.Prelude.{Bool, true, false, Option, Some, None, if◌then◌else◌}
use Rattle.pm_places.specs.declared.span.Span.{Span}
use Rattle.gim_text.specs.declared.token.Token.{Token}
use Rattle.gim_text.specs.declared.token.Token.TheVariants as tokens
use Rattle.gim_text.specs.declared.token.TypeWord.{TypeWord}
use Rattle.gim_text.specs.declared.token.Keyword.{Keyword}
use Rattle.gim_text.specs.declared.token.Keyword.TheVariants as keywords
use Rattle.gim_text.specs.declared.token.NumberKind.{NumberKind}
use Rattle.gim_text.specs.declared.token.Mark.{Mark}
use Rattle.gim_text.specs.declared.token.Mark.TheVariants as marks

-- the two are one mark
abbrev pub same_mark : Mark → Mark → Bool
same_mark marks.Open marks.Open = true
same_mark marks.Close marks.Close = true
same_mark marks.OpenBrace marks.OpenBrace = true
same_mark marks.CloseBrace marks.CloseBrace = true
same_mark marks.Comma marks.Comma = true
same_mark marks.Semicolon marks.Semicolon = true
same_mark marks.Colon marks.Colon = true
same_mark marks.Question marks.Question = true
same_mark marks.Assign marks.Assign = true
same_mark marks.Plus marks.Plus = true
same_mark marks.Minus marks.Minus = true
same_mark marks.Star marks.Star = true
same_mark marks.Slash marks.Slash = true
same_mark marks.Percent marks.Percent = true
same_mark marks.Ampersand marks.Ampersand = true
same_mark marks.Bar marks.Bar = true
same_mark marks.Caret marks.Caret = true
same_mark marks.Tilde marks.Tilde = true
same_mark marks.ShiftLeft marks.ShiftLeft = true
same_mark marks.ShiftRight marks.ShiftRight = true
same_mark marks.Equal marks.Equal = true
same_mark marks.NotEqual marks.NotEqual = true
same_mark marks.Less marks.Less = true
same_mark marks.LessEqual marks.LessEqual = true
same_mark marks.Greater marks.Greater = true
same_mark marks.GreaterEqual marks.GreaterEqual = true
same_mark a b = false

-- the two are one reserved word
abbrev pub same_keyword : Keyword → Keyword → Bool
same_keyword keywords.Gimple keywords.Gimple = true
same_keyword keywords.Void keywords.Void = true
same_keyword keywords.Block keywords.Block = true
same_keyword keywords.Phi keywords.Phi = true
same_keyword keywords.Goto keywords.Goto = true
same_keyword keywords.If keywords.If = true
same_keyword keywords.Else keywords.Else = true
same_keyword keywords.Return keywords.Return = true
same_keyword keywords.Min keywords.Min = true
same_keyword keywords.Max keywords.Max = true
same_keyword keywords.Abs keywords.Abs = true
same_keyword keywords.Absu keywords.Absu = true
same_keyword keywords.Literal keywords.Literal = true
same_keyword keywords.Default keywords.Default = true
same_keyword a b = false

-- the place of the token, where it is this mark
abbrev pub mark : Mark → Token → Option Span
mark m (tokens.Mark found at) = if same_mark found m then Some at else None
mark m token = None

-- the place of the token, where it is this reserved word
abbrev pub keyword : Keyword → Token → Option Span
keyword k (tokens.Keyword found at) = if same_keyword found k then Some at else None
keyword k token = None

-- the word of a type
abbrev pub type_word : Token → Option TypeWord
type_word (tokens.TypeWord word at) = Some word
type_word token = None

-- the place of an identifier that is not reserved
abbrev pub identifier : Token → Option Span
identifier (tokens.Identifier at) = Some at
identifier (tokens.Ssa at) = Some at
identifier token = None

-- the place of `__BB` and a number in one word
abbrev pub block_word : Token → Option Span
block_word (tokens.BlockWord at) = Some at
block_word token = None

-- how a number is written, and its place
abbrev pub number : Token → Option (NumberKind × Span)
number (tokens.Number kind at) = Some (kind, at)
number token = None

-- the place of a token
abbrev pub span_of : Token → Span
span_of (tokens.TypeWord word at) = at
span_of (tokens.Keyword word at) = at
span_of (tokens.BlockWord at) = at
span_of (tokens.Ssa at) = at
span_of (tokens.Identifier at) = at
span_of (tokens.Number kind at) = at
span_of (tokens.Text at) = at
span_of (tokens.Mark m at) = at
