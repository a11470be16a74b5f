-- What a token means: a function of its kind and its bytes.
use Rattle.std.specs.Prelude.{ℕ, Bool, true, false, Option, Some, None, List, [], ◌∷◌, codes}
use Rattle.lexing.specs.Tables.{beside}
use Rattle.pm_places.specs.declared.span.Span.{Span}
use Rattle.pm_places.specs.Spans.{text_of}
use Rattle.pd_lexer.specs.Spans as places
use Rattle.pd_lexer.specs.declared.token.Token.{Token}
use Rattle.pd_lexer.specs.declared.token.TokenKind.{TokenKind}
use Rattle.pd_lexer.specs.declared.token.TokenKind.TheVariants as kinds
use Rattle.pd_text.specs.declared.symbol.Symbol.{Symbol}
use Rattle.pd_text.specs.declared.symbol.Symbol.TheVariants as symbols
use Rattle.pd_text.specs.declared.symbol.Word.{Word}
use Rattle.pd_text.specs.declared.symbol.Word.TheVariants as words
use Rattle.pd_text.specs.declared.symbol.Mark.{Mark}
use Rattle.pd_text.specs.declared.symbol.Mark.TheVariants as marks

-- the words that grammars quote
abbrev pub word_table : List (List ℕ × Word)
word_table =
    (codes "simplify", words.Simplify) ∷ (codes "match", words.Match) ∷
    (codes "for", words.For) ∷ (codes "if", words.If) ∷ (codes "switch", words.Switch) ∷
    (codes "with", words.With) ∷ (codes "define_operator_list", words.OperatorList) ∷
    (codes "define_predicates", words.Predicates) ∷ (codes "tree", words.Tree) ∷
    (codes "wide_int", words.WideInt) ∷ (codes "bool", words.Boolean) ∷
    (codes "int", words.Int) ∷ (codes "unsigned", words.Unsigned) ∷
    (codes "signop", words.Signop) ∷ (codes "tree_code", words.TreeCode) ∷
    (codes "wi", words.Wide) ∷ (codes "overflow_type", words.OverflowType) ∷
    (codes "add", words.Add) ∷ (codes "sub", words.Subtract) ∷
    (codes "mul", words.Multiply) ∷ (codes "neg", words.Negate) ∷ []

-- the marks
abbrev pub mark_table : List (List ℕ × Mark)
mark_table =
    (codes "(", marks.Open) ∷ (codes ")", marks.Close) ∷ (codes "{", marks.OpenBrace) ∷
    (codes "}", marks.CloseBrace) ∷ (codes ",", marks.Comma) ∷ (codes ";", marks.Semicolon) ∷
    (codes ":", marks.Colon) ∷ (codes "::", marks.DoubleColon) ∷
    (codes "?", marks.Question) ∷ (codes "!", marks.Exclamation) ∷ (codes "~", marks.Tilde) ∷
    (codes "&", marks.Ampersand) ∷ (codes "&&", marks.DoubleAmpersand) ∷
    (codes "|", marks.Bar) ∷ (codes "||", marks.DoubleBar) ∷ (codes "^", marks.Caret) ∷
    (codes "+", marks.Plus) ∷ (codes "-", marks.Minus) ∷ (codes "*", marks.Star) ∷
    (codes "/", marks.Slash) ∷ (codes "%", marks.Percent) ∷ (codes "=", marks.Assign) ∷
    (codes "==", marks.Equal) ∷ (codes "!=", marks.NotEqual) ∷ (codes "<", marks.Less) ∷
    (codes ">", marks.Greater) ∷ (codes "<=", marks.LessEqual) ∷
    (codes ">=", marks.GreaterEqual) ∷ (codes "<<", marks.ShiftLeft) ∷
    (codes ">>", marks.ShiftRight) ∷ []

abbrev pub word_of : List ℕ → Option Word
word_of bytes = beside bytes word_table

abbrev pub mark_of : List ℕ → Option Mark
mark_of bytes = beside bytes mark_table

abbrev pub word_or_identifier : Option Word → Span → Symbol
word_or_identifier (Some found) at = symbols.Word found at
word_or_identifier None at = symbols.Identifier at

abbrev pub mark_or_odd : Option Mark → Span → Symbol
mark_or_odd (Some found) at = symbols.Mark found at
mark_or_odd None at = symbols.Odd at

abbrev pub identifier_of : List ℕ → Span → Symbol
identifier_of bytes at = word_or_identifier (word_of bytes) at

abbrev pub punctuation_of : List ℕ → Span → Symbol
punctuation_of bytes at = mark_or_odd (mark_of bytes) at

-- what a token of this kind, at this place of the source, means
abbrev pub meaning_at : List ℕ → TokenKind → Bool → Span → Symbol
meaning_at source kinds.Ident joined at = identifier_of (text_of source at) at
meaning_at source kinds.Number joined at = symbols.Number at
meaning_at source kinds.Capture joined at = symbols.Capture (record { at = at; by_value = false; joined = joined })
meaning_at source kinds.ValueCapture joined at = symbols.Capture (record { at = at; by_value = true; joined = joined })
meaning_at source kinds.Text joined at = symbols.Text at
meaning_at source kinds.Punct joined at = punctuation_of (text_of source at) at

-- what a token of the source means
unfoldable pub symbol_of : List ℕ → Token → Symbol
symbol_of source token = meaning_at source token.kind token.joined (places.span_of token)
