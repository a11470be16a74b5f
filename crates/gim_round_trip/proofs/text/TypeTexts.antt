-- The printed texts of the eleven types are read as these.
use Rattle.std.proofs.Common.{◌≡◌, ℕ, Bool, true, false, Some, List, [], ◌∷◌, ◌++◌, map}
use Rattle.std.proofs.Common.{length, codes, lit<, Contains, refl, sym, ap, ◌∙◌, subst}
use Rattle.std.specs.Prelude.{◌==◌, ◌&&◌, ◌||◌}
use Rattle.std.proofs.lemmas.Bool.{eqb-true, false≢true}
use Rattle.std.proofs.lemmas.List.{map-append}
use Rattle.pm_wide.specs.Types.{Ty}
use Rattle.lexing.specs.Words.{is_word_text}
use Rattle.gim_printer.specs.Printing.{type_text}
use Rattle.gim_ast.specs.WellFormed.{is_type_of}
use Rattle.pm_places.specs.declared.span.Span.{Span}
use Rattle.gim_text.specs.declared.token.Token.{Token}
use Rattle.gim_text.specs.declared.token.Token.TheVariants as tokens
use Rattle.gim_text.specs.declared.token.TypeWord.{TypeWord}
use Rattle.gim_text.specs.declared.token.TypeWord.TheVariants as words
use Rattle.gim_text.specs.Meanings.{type_word}
use Rattle.pm_places.specs.Spans.{place}
use Rattle.gim_lexer.specs.Words.{word_token}
use Rattle.gim_words.specs.Types.{SpellsType, forms, some_word}
use Rattle.gim_statements.specs.Grammar.{◌▸◌}
use Rattle.gim_round_trip.proofs.text.Prints.{Prints, any_end, word_end, joined, seen, blanks_after}
use Rattle.gim_round_trip.proofs.text.Words.{word_prints}

-- ---- words of types

abbrev word_text : TypeWord → List ℕ
word_text words.Signed = codes "signed"
word_text words.Unsigned = codes "unsigned"
word_text words.Char = codes "char"
word_text words.Short = codes "short"
word_text words.Int = codes "int"
word_text words.Long = codes "long"
word_text words.Int128 = codes "__int128"
word_text words.BoolWord = codes "_Bool"

word_is_word : (word : TypeWord) → is_word_text (word_text word) ≡ true
word_is_word words.Signed = refl
word_is_word word = refl

type_token : (word : TypeWord) (span : Span) → word_token (word_text word) span ≡ tokens.TypeWord word span
unfolding word_token
type_token words.Signed span = refl
type_token word span = refl

-- the tokens are these words
abbrev AreWords : List TypeWord → List Token → Type 0
AreWords written tokens = map type_word tokens ≡ map some_word written

one_word_prints : (source : List ℕ) (word : TypeWord)
    → Prints source word_end (λ (u : Unit {0}). AreWords (word ∷ [])) (λ u. Unit {0}) (word_text word)
one_word_prints source word =
    let n = length (word_text word) in
    word_prints source (word_text word) (λ at. tt) (word_is_word word)
    (λ at. ap (λ t. type_word t ∷ []) (type_token word (place at n))) (λ at e. tt)

words_together : (a b : TypeWord) (tokens : List Token) → (AreWords (a ∷ []) ▸ AreWords (b ∷ [])) tokens → AreWords (a ∷ b ∷ []) tokens
words_together a b tokens (u, v, first, second, cut) =
    ap (map type_word) cut ∙ map-append type_word u v ∙ ap (λ ws. ws ++ map type_word v) first
    ∙ ap (λ ws. Some a ∷ ws) second

two_words_print : (source : List ℕ) (a b : TypeWord)
    → Prints source word_end (λ (u : Unit {0}). AreWords (a ∷ b ∷ [])) (λ u. Unit {0})
    (word_text a ++ codes " " ++ word_text b)
two_words_print source a b =
    seen (joined (blanks_after {last = any_end} (codes " ") refl (λ rest. refl) (one_word_prints source a)) (λ rest. tt)
    (one_word_prints source b))
    (λ x. tt) (λ x w is spelled. words_together a b w spelled) (λ x is. tt)

-- ---- types

-- words that are a form of the type
as_type : {source : List ℕ} {bs : List ℕ} (t : Ty) (form : List TypeWord) → Contains forms (t, form)
    → Prints source word_end (λ (u : Unit {0}). AreWords form) (λ u. Unit {0}) bs
    → Prints source word_end (λ (u : Unit {0}). SpellsType t) (λ u. Unit {0}) bs
as_type t form is_form one =
    seen one (λ u. tt) (λ u w is words. record
    { written = form; is_written = words; form = form; is_form = is_form; in_any_order = refl }) (λ u is. tt)

-- what holds of the eleven types holds of each type
each_type : (P : Ty → Type 0) → P (record { width = 1; unsigned = true })
    → ((u : Bool) → P (record { width = 8; unsigned = u })) → ((u : Bool) → P (record { width = 16; unsigned = u }))
    → ((u : Bool) → P (record { width = 32; unsigned = u })) → ((u : Bool) → P (record { width = 64; unsigned = u }))
    → ((u : Bool) → P (record { width = 128; unsigned = u }))
    → (t : Ty) → is_type_of t ≡ true → P t
each_type P bool char short int long wide t h =
    by (t.width == 8) (t.width == 16) (t.width == 32) (t.width == 64) (t.width == 128) (t.width == 1) t.unsigned
    (eqb-true t.width 8) (eqb-true t.width 16) (eqb-true t.width 32) (eqb-true t.width 64) (eqb-true t.width 128)
    (eqb-true t.width 1) h where
      at : (n : ℕ) (u : Bool) → t.width ≡ n → P (record { width = n; unsigned = u }) → P (record { width = t.width; unsigned = u })
      at n u e p = subst (λ m. P (record { width = m; unsigned = u })) (sym e) p

      by : (a b c d e f u : Bool) → (a ≡ true → t.width ≡ 8) → (b ≡ true → t.width ≡ 16) → (c ≡ true → t.width ≡ 32)
          → (d ≡ true → t.width ≡ 64) → (e ≡ true → t.width ≡ 128) → (f ≡ true → t.width ≡ 1)
          → ((a || b || c || d || e) || (f && u)) ≡ true → P (record { width = t.width; unsigned = u })
      by true b c d e f u p q r s v w h = at 8 u (p refl) (char u)
      by false true c d e f u p q r s v w h = at 16 u (q refl) (short u)
      by false false true d e f u p q r s v w h = at 32 u (r refl) (int u)
      by false false false true e f u p q r s v w h = at 64 u (s refl) (long u)
      by false false false false true f u p q r s v w h = at 128 u (v refl) (wide u)
      by false false false false false true true p q r s v w h = at 1 true (w refl) bool
      by false false false false false true false p q r s v w h = absurd (false≢true h)
      by false false false false false false u p q r s v w h = absurd (false≢true h)

-- the text of this type is read as it
TypePrints : List ℕ → Ty → Type 0
TypePrints source t = Prints source word_end (λ (u : Unit {0}). SpellsType t) (λ u. Unit {0}) (type_text t)

bool_prints : (source : List ℕ) → TypePrints source (record { width = 1; unsigned = true })
unfolding TypePrints type_text
bool_prints source =
    as_type (record { width = 1; unsigned = true }) (words.BoolWord ∷ []) (0, lit< tt, refl)
    (one_word_prints source words.BoolWord)

char_prints : (source : List ℕ) (u : Bool) → TypePrints source (record { width = 8; unsigned = u })
unfolding TypePrints type_text
char_prints source true =
    as_type (record { width = 8; unsigned = true }) (words.Unsigned ∷ words.Char ∷ []) (3, lit< tt, refl)
    (two_words_print source words.Unsigned words.Char)
char_prints source false =
    as_type (record { width = 8; unsigned = false }) (words.Signed ∷ words.Char ∷ []) (2, lit< tt, refl)
    (two_words_print source words.Signed words.Char)

short_prints : (source : List ℕ) (u : Bool) → TypePrints source (record { width = 16; unsigned = u })
unfolding TypePrints type_text
short_prints source true =
    as_type (record { width = 16; unsigned = true }) (words.Unsigned ∷ words.Short ∷ []) (8, lit< tt, refl)
    (two_words_print source words.Unsigned words.Short)
short_prints source false =
    as_type (record { width = 16; unsigned = false }) (words.Short ∷ []) (4, lit< tt, refl)
    (one_word_prints source words.Short)

int_prints : (source : List ℕ) (u : Bool) → TypePrints source (record { width = 32; unsigned = u })
unfolding TypePrints type_text
int_prints source true =
    as_type (record { width = 32; unsigned = true }) (words.Unsigned ∷ words.Int ∷ []) (14, lit< tt, refl)
    (two_words_print source words.Unsigned words.Int)
int_prints source false =
    as_type (record { width = 32; unsigned = false }) (words.Int ∷ []) (10, lit< tt, refl)
    (one_word_prints source words.Int)

long_prints : (source : List ℕ) (u : Bool) → TypePrints source (record { width = 64; unsigned = u })
unfolding TypePrints type_text
long_prints source true =
    as_type (record { width = 64; unsigned = true }) (words.Unsigned ∷ words.Long ∷ []) (23, lit< tt, refl)
    (two_words_print source words.Unsigned words.Long)
long_prints source false =
    as_type (record { width = 64; unsigned = false }) (words.Long ∷ []) (15, lit< tt, refl)
    (one_word_prints source words.Long)

wide_prints : (source : List ℕ) (u : Bool) → TypePrints source (record { width = 128; unsigned = u })
unfolding TypePrints type_text
wide_prints source true =
    as_type (record { width = 128; unsigned = true }) (words.Unsigned ∷ words.Int128 ∷ []) (29, lit< tt, refl)
    (two_words_print source words.Unsigned words.Int128)
wide_prints source false =
    as_type (record { width = 128; unsigned = false }) (words.Int128 ∷ []) (27, lit< tt, refl)
    (one_word_prints source words.Int128)

pub type_text_prints : (source : List ℕ) (t : Ty) → is_type_of t ≡ true
    → Prints source word_end (λ (u : Unit {0}). SpellsType t) (λ u. Unit {0}) (type_text t)
unfolding TypePrints
type_text_prints source t h =
    each_type (TypePrints source) (bool_prints source) (char_prints source) (short_prints source) (int_prints source)
    (long_prints source) (wide_prints source) t h
