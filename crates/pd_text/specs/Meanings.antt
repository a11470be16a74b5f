-- What one symbol means where a grammar asks for a mark, a word, a name, a number or a capture.
use Rattle.std.specs.Prelude.{Bool, true, false, Option, Some, None, if◌then◌else◌}
use Rattle.pm_places.specs.declared.span.Span.{Span}
use Rattle.pd_text.specs.declared.symbol.Symbol.{Symbol}
use Rattle.pd_text.specs.declared.symbol.Symbol.TheVariants as symbols
use Rattle.pd_text.specs.declared.symbol.Word.{Word}
use Rattle.pd_text.specs.declared.symbol.Word.TheVariants as words
use Rattle.pd_text.specs.declared.symbol.Mark.{Mark}
use Rattle.pd_text.specs.declared.symbol.Mark.TheVariants as marks

-- the two are one word
abbrev pub same_word : Word → Word → Bool
same_word words.Simplify words.Simplify = true
same_word words.Match words.Match = true
same_word words.For words.For = true
same_word words.If words.If = true
same_word words.Switch words.Switch = true
same_word words.With words.With = true
same_word words.OperatorList words.OperatorList = true
same_word words.Predicates words.Predicates = true
same_word words.Tree words.Tree = true
same_word words.WideInt words.WideInt = true
same_word words.Boolean words.Boolean = true
same_word words.Int words.Int = true
same_word words.Unsigned words.Unsigned = true
same_word words.Signop words.Signop = true
same_word words.TreeCode words.TreeCode = true
same_word words.Wide words.Wide = true
same_word words.OverflowType words.OverflowType = true
same_word words.Add words.Add = true
same_word words.Subtract words.Subtract = true
same_word words.Multiply words.Multiply = true
same_word words.Negate words.Negate = true
same_word a b = false

-- the two are one mark
abbrev pub same_mark : Mark → Mark → Bool
same_mark marks.Open marks.Open = true
same_mark marks.Close marks.Close = true
same_mark marks.OpenBrace marks.OpenBrace = true
same_mark marks.CloseBrace marks.CloseBrace = true
same_mark marks.Comma marks.Comma = true
same_mark marks.Semicolon marks.Semicolon = true
same_mark marks.Colon marks.Colon = true
same_mark marks.DoubleColon marks.DoubleColon = true
same_mark marks.Question marks.Question = true
same_mark marks.Exclamation marks.Exclamation = true
same_mark marks.Tilde marks.Tilde = true
same_mark marks.Ampersand marks.Ampersand = true
same_mark marks.DoubleAmpersand marks.DoubleAmpersand = true
same_mark marks.Bar marks.Bar = true
same_mark marks.DoubleBar marks.DoubleBar = true
same_mark marks.Caret marks.Caret = true
same_mark marks.Plus marks.Plus = true
same_mark marks.Minus marks.Minus = true
same_mark marks.Star marks.Star = true
same_mark marks.Slash marks.Slash = true
same_mark marks.Percent marks.Percent = true
same_mark marks.Assign marks.Assign = true
same_mark marks.Equal marks.Equal = true
same_mark marks.NotEqual marks.NotEqual = true
same_mark marks.Less marks.Less = true
same_mark marks.Greater marks.Greater = true
same_mark marks.LessEqual marks.LessEqual = true
same_mark marks.GreaterEqual marks.GreaterEqual = true
same_mark marks.ShiftLeft marks.ShiftLeft = true
same_mark marks.ShiftRight marks.ShiftRight = true
same_mark a b = false

-- the place of the symbol, where it is this mark
abbrev pub mark : Mark → Symbol → Option Span
mark m (symbols.Mark found at) = if same_mark found m then Some at else None
mark m symbol = None

-- the place of the symbol, where it is this word
abbrev pub word : Word → Symbol → Option Span
word k (symbols.Word found at) = if same_word found k then Some at else None
word k symbol = None

-- the place of an identifier; the words that grammars quote are identifiers too
abbrev pub identifier : Symbol → Option Span
identifier (symbols.Identifier at) = Some at
identifier (symbols.Word found at) = Some at
identifier symbol = None

-- the place of a number
abbrev pub number : Symbol → Option Span
number (symbols.Number at) = Some at
number symbol = None

-- the place of a capture written with one `@`
abbrev pub plain_capture : Symbol → Option Span
plain_capture (symbols.Capture capture) = if capture.by_value then None else Some capture.at
plain_capture symbol = None

-- the place of a symbol
abbrev pub span_of : Symbol → Span
span_of (symbols.Word found at) = at
span_of (symbols.Identifier at) = at
span_of (symbols.Number at) = at
span_of (symbols.Capture capture) = capture.at
span_of (symbols.Text at) = at
span_of (symbols.Mark m at) = at
span_of (symbols.Odd at) = at
