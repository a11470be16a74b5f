-- Texts of one token: words, numbers and marks.
use Rattle.std.proofs.Common.{◌≡◌, ℕ, ◌^◌, ◌<◌, Bool, true, false, Some, List, [], ◌∷◌, ◌++◌, length, drop, codes, refl, ap, ◌∙◌, subst}
use Rattle.std.specs.Fmt.{decimal}
use Rattle.std.proofs.lemmas.Bool.{false≢true}
use Rattle.std.proofs.lemmas.List.{append-nil}
use Rattle.gim_ast.specs.Identifiers.{is_identifier}
use Rattle.lexing.specs.Words.{is_word_text}
use Rattle.lexing.specs.Numbers.{is_number_text}
use Rattle.lexing.proofs.NumberLemmas.{decimal_is_number_text, number_is_word}
use Rattle.pm_places.specs.declared.span.Span.{Span}
use Rattle.gim_text.specs.declared.token.Token.{Token}
use Rattle.gim_text.specs.declared.token.Token.TheVariants as tokens
use Rattle.gim_text.specs.declared.token.Keyword.{Keyword}
use Rattle.gim_text.specs.declared.token.Keyword.TheVariants as keywords
use Rattle.gim_text.specs.declared.token.Mark.{Mark}
use Rattle.gim_text.specs.declared.token.Mark.TheVariants as marks
use Rattle.gim_text.specs.declared.token.NumberKind.TheVariants.{Plain}
use Rattle.gim_text.specs.Meanings.{mark, keyword, identifier, block_word}
use Rattle.pm_places.specs.Spans.{text_of, place}
use Rattle.grammar.specs.Spelling.{Meant}
use Rattle.gim_lexer.specs.Words.{word_token}
use Rattle.gim_words.specs.Tokens.{plain_number}
use Rattle.gim_statements.specs.Grammar.{AMark, AKeyword}
use Rattle.gim_syntax.specs.Grammar.{IsSsa}
use Rattle.gim_round_trip.proofs.text.Prints.{Prints, any_end, word_end, blank_end, seen}
use Rattle.gim_round_trip.proofs.tree.Writes.{NamesBlock}
use Rattle.gim_round_trip.proofs.text.Words.{word_prints, identifier_is_word, identifier_means}
use Rattle.gim_round_trip.proofs.text.Numbers.{written_number_prints}
use Rattle.gim_round_trip.proofs.text.Marks.{IsMarkText, one_byte, mark_text_prints, assign_mark, semicolon_mark, spaced_mark_prints}

-- ---- words

-- an identifier that isn't reserved
pub identifier_prints : (source bs : List ℕ) → is_identifier bs ≡ true
    → Prints source word_end (λ (at : Span). Meant identifier at) (λ at. text_of source at ≡ bs) bs
identifier_prints source bs h =
    let word = identifier_is_word bs h in
    word_prints source bs (λ at. place at (length bs)) word.text
    (λ at. (word_token bs (place at (length bs)), identifier_means bs (place at (length bs)) word.free, refl))
    (λ at e. e)

ssa_token : (span : Span) → word_token (codes "ssa") span ≡ tokens.Ssa span
unfolding word_token
ssa_token span = refl

-- the same option, seen as the token of its own
pub ssa_word_prints : (source : List ℕ) → Prints source word_end (λ (u : Unit {0}). IsSsa) (λ u. Unit {0}) (codes "ssa")
ssa_word_prints source =
    word_prints source (codes "ssa") (λ at. tt) refl (λ at. (place at 3, ap (λ t. t ∷ []) (ssa_token (place at 3))))
    (λ at e. tt)

-- the word of a reserved keyword
abbrev pub keyword_text : Keyword → List ℕ
keyword_text keywords.Gimple = codes "__GIMPLE"
keyword_text keywords.Void = codes "void"
keyword_text keywords.Block = codes "__BB"
keyword_text keywords.Phi = codes "__PHI"
keyword_text keywords.Goto = codes "goto"
keyword_text keywords.If = codes "if"
keyword_text keywords.Else = codes "else"
keyword_text keywords.Return = codes "return"
keyword_text keywords.Min = codes "__MIN"
keyword_text keywords.Max = codes "__MAX"
keyword_text keywords.Abs = codes "__ABS"
keyword_text keywords.Absu = codes "__ABSU"
keyword_text keywords.Literal = codes "_Literal"
keyword_text keywords.Default = codes "D"

keyword_is_word : (k : Keyword) → is_word_text (keyword_text k) ≡ true
keyword_is_word keywords.Gimple = refl
keyword_is_word k = refl

keyword_token : (k : Keyword) (span : Span) → word_token (keyword_text k) span ≡ tokens.Keyword k span
unfolding word_token
keyword_token keywords.Gimple span = refl
keyword_token k span = refl

keyword_itself : (k : Keyword) (span : Span) → keyword k (tokens.Keyword k span) ≡ Some span
keyword_itself keywords.Gimple span = refl
keyword_itself k span = refl

-- a keyword, by its very token
pub keyword_there : (source : List ℕ) (k : Keyword)
    → Prints source word_end (λ (at : Span) (w : List Token). w ≡ tokens.Keyword k at ∷ []) (λ at. Unit {0})
    (keyword_text k)
keyword_there source k =
    word_prints source (keyword_text k) (λ at. place at (length (keyword_text k))) (keyword_is_word k)
    (λ at. ap (λ t. t ∷ []) (keyword_token k (place at (length (keyword_text k))))) (λ at e. tt)

pub keyword_prints : (source : List ℕ) (k : Keyword)
    → Prints source word_end (λ (at : Span). Meant (keyword k) at) (λ at. Unit {0}) (keyword_text k)
keyword_prints source k =
    seen (keyword_there source k) (λ at. at) (λ at w is e. (tokens.Keyword k at, keyword_itself k at, e)) (λ at is. tt)

-- a keyword at any place
pub a_keyword_prints : (source : List ℕ) (k : Keyword)
    → Prints source word_end (λ (u : Unit {0}). AKeyword k) (λ u. Unit {0}) (keyword_text k)
a_keyword_prints source k = seen (keyword_prints source k) (λ at. tt) (λ at w is meant. (at, meant)) (λ at is. tt)

-- ---- marks

-- a mark of one byte that begins no mark of two bytes and no separator: `( ) { } , : ? - ~` and their like
abbrev pub is_plain_mark : Mark → Bool
is_plain_mark marks.Open = true
is_plain_mark marks.Close = true
is_plain_mark marks.OpenBrace = true
is_plain_mark marks.CloseBrace = true
is_plain_mark marks.Comma = true
is_plain_mark marks.Colon = true
is_plain_mark marks.Question = true
is_plain_mark marks.Minus = true
is_plain_mark marks.Tilde = true
is_plain_mark m = false

abbrev pub plain_mark_text : Mark → List ℕ
plain_mark_text marks.Open = codes "("
plain_mark_text marks.Close = codes ")"
plain_mark_text marks.OpenBrace = codes "{"
plain_mark_text marks.CloseBrace = codes "}"
plain_mark_text marks.Comma = codes ","
plain_mark_text marks.Colon = codes ":"
plain_mark_text marks.Question = codes "?"
plain_mark_text marks.Minus = codes "-"
plain_mark_text marks.Tilde = codes "~"
plain_mark_text m = []

plain_mark : (m : Mark) → is_plain_mark m ≡ true → IsMarkText (plain_mark_text m) m
plain_mark marks.Open h = one_byte 40 marks.Open refl refl (λ b. refl)
plain_mark marks.Close h = one_byte 41 marks.Close refl refl (λ b. refl)
plain_mark marks.OpenBrace h = one_byte 123 marks.OpenBrace refl refl (λ b. refl)
plain_mark marks.CloseBrace h = one_byte 125 marks.CloseBrace refl refl (λ b. refl)
plain_mark marks.Comma h = one_byte 44 marks.Comma refl refl (λ b. refl)
plain_mark marks.Colon h = one_byte 58 marks.Colon refl refl (λ b. refl)
plain_mark marks.Question h = one_byte 63 marks.Question refl refl (λ b. refl)
plain_mark marks.Minus h = one_byte 45 marks.Minus refl refl (λ b. refl)
plain_mark marks.Tilde h = one_byte 126 marks.Tilde refl refl (λ b. refl)
plain_mark m h = absurd (false≢true h)

mark_itself : (m : Mark) (span : Span) → mark m (tokens.Mark m span) ≡ Some span
mark_itself marks.Open span = refl
mark_itself m span = refl

-- a mark, by its very token
pub mark_there : (source : List ℕ) (m : Mark) → is_plain_mark m ≡ true
    → Prints source any_end (λ (at : Span) (w : List Token). w ≡ tokens.Mark m at ∷ []) (λ at. Unit {0})
    (plain_mark_text m)
mark_there source m h =
    mark_text_prints source (plain_mark_text m) m (λ at. place at (length (plain_mark_text m))) (plain_mark m h)
    (λ at. refl) (λ at e. tt)

pub mark_prints : (source : List ℕ) (m : Mark) → is_plain_mark m ≡ true
    → Prints source any_end (λ (at : Span). Meant (mark m) at) (λ at. Unit {0}) (plain_mark_text m)
mark_prints source m h = seen (mark_there source m h) (λ at. at) (λ at w is e. (tokens.Mark m at, mark_itself m at, e)) (λ at is. tt)

-- a mark at any place
pub a_mark_prints : (source : List ℕ) (m : Mark) → is_plain_mark m ≡ true
    → Prints source any_end (λ (u : Unit {0}). AMark m) (λ u. Unit {0}) (plain_mark_text m)
a_mark_prints source m h = seen (mark_prints source m h) (λ at. tt) (λ at w is meant. (at, meant)) (λ at is. tt)

-- `=` and `;` before white space
pub assign_prints : (source : List ℕ) → Prints source blank_end (λ (at : Span). Meant (mark marks.Assign) at) (λ at. Unit {0}) (codes "=")
assign_prints source =
    spaced_mark_prints source (codes "=") marks.Assign (λ at. place at 1) assign_mark
    (λ at. (tokens.Mark marks.Assign (place at 1), refl, refl)) (λ at e. tt)

pub semicolon_prints : (source : List ℕ) → Prints source blank_end (λ (at : Span). Meant (mark marks.Semicolon) at)
    (λ at. Unit {0}) (codes ";")
semicolon_prints source =
    spaced_mark_prints source (codes ";") marks.Semicolon (λ at. place at 1) semicolon_mark
    (λ at. (tokens.Mark marks.Semicolon (place at 1), refl, refl)) (λ at e. tt)

-- ---- blocks and numbers

block_token : (ds : List ℕ) (span : Span) → is_number_text ds ≡ true → word_token (codes "__BB" ++ ds) span ≡ tokens.BlockWord span
unfolding word_token
block_token [] span h = absurd (false≢true h)
block_token (d ∷ ds) span h = rw h refl

-- `__BBn`
pub block_word_prints : (source : List ℕ) (n : ℕ) → n < 2 ^ 64
    → Prints source word_end (λ (at : Span). Meant block_word at) (λ at. NamesBlock source at n)
    (codes "__BB" ++ decimal n)
block_word_prints source n small =
    let bs = codes "__BB" ++ decimal n in
    word_prints source bs (λ at. place at (length bs)) (number_is_word (decimal n) (decimal_is_number_text n small))
    (λ at. (
      word_token bs (place at (length bs)),
      ap block_word (block_token (decimal n) (place at (length bs)) (decimal_is_number_text n small)),
      refl,
    ))
    (λ at e. ap (drop 4) e)

-- a number without a suffix
pub number_prints : (source : List ℕ) (n : ℕ) → n < 2 ^ 64
    → Prints source word_end (λ (at : Span). Meant plain_number at) (λ at. text_of source at ≡ decimal n) (decimal n)
number_prints source n small =
    let bs = decimal n ++ [] in
    subst (Prints source word_end (λ (at : Span). Meant plain_number at) (λ at. text_of source at ≡ decimal n)) (append-nil (decimal n))
    (written_number_prints source (decimal n) [] Plain (λ at. place at (length bs))
    (record { number = decimal_is_number_text n small; letters = refl; kind_is = refl })
    (λ at. (tokens.Number Plain (place at (length bs)), refl, refl)) (λ at e. e ∙ append-nil (decimal n)))
