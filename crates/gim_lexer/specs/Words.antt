-- Words: which are reserved, and what token each makes.
use Rattle.std.specs.Prelude.{ℕ, Option, Some, None, List, [], ◌∷◌, codes, if◌then◌else◌}
use Rattle.std.specs.Str.{bytes_eq}
use Rattle.gim_ast.specs.Identifiers.{is_block_word}
use Rattle.pm_places.specs.declared.span.Span.{Span}
use Rattle.gim_text.specs.declared.token.Token.{Token}
use Rattle.gim_text.specs.declared.token.Token.TheVariants as tokens
use Rattle.gim_text.specs.declared.token.TypeWord.{TypeWord}
use Rattle.gim_text.specs.declared.token.TypeWord.TheVariants as types
use Rattle.gim_text.specs.declared.token.Keyword.{Keyword}
use Rattle.gim_text.specs.declared.token.Keyword.TheVariants as keywords
use Rattle.lexing.specs.Tables.{beside}

-- the words of types
abbrev pub type_words : List (List ℕ × TypeWord)
type_words = (codes "signed", types.Signed) ∷ (codes "unsigned", types.Unsigned) ∷ (codes "char", types.Char) ∷ (codes "short", types.Short)
    ∷ (codes "int", types.Int) ∷ (codes "long", types.Long) ∷ (codes "__int128", types.Int128) ∷ (codes "_Bool", types.BoolWord) ∷ []

-- the other reserved words
abbrev pub keyword_table : List (List ℕ × Keyword)
keyword_table = (codes "__GIMPLE", keywords.Gimple) ∷ (codes "void", keywords.Void) ∷ (codes "__BB", keywords.Block) ∷ (codes "__PHI", keywords.Phi)
    ∷ (codes "goto", keywords.Goto) ∷ (codes "if", keywords.If) ∷ (codes "else", keywords.Else) ∷ (codes "return", keywords.Return)
    ∷ (codes "__MIN", keywords.Min) ∷ (codes "__MAX", keywords.Max) ∷ (codes "__ABS", keywords.Abs) ∷ (codes "__ABSU", keywords.Absu)
    ∷ (codes "_Literal", keywords.Literal) ∷ (codes "D", keywords.Default) ∷ []

abbrev pub type_word_of : List ℕ → Option TypeWord
type_word_of word = beside word type_words

abbrev pub keyword_of : List ℕ → Option Keyword
keyword_of word = beside word keyword_table

-- a word that is not reserved, but for the names of blocks
abbrev pub plain_word : List ℕ → Span → Token
plain_word word span =
    if is_block_word word then tokens.BlockWord span
    else (if bytes_eq word (codes "ssa") then tokens.Ssa span else tokens.Identifier span)

abbrev pub word_from : Option TypeWord → Option Keyword → List ℕ → Span → Token
word_from (Some type_word) keyword word span = tokens.TypeWord type_word span
word_from None (Some keyword) word span = tokens.Keyword keyword span
word_from None None word span = plain_word word span

-- the token that a word makes
unfoldable pub word_token : List ℕ → Span → Token
word_token word span = word_from (type_word_of word) (keyword_of word) word span
