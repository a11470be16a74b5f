-- The token that begins a text is the longest front that spells one.
use Rattle.std.proofs.Common.{◌≡◌, ℕ, zero, suc, ◌+◌, ◌-◌, ◌<◌, ◌≤◌, Bool, true, false, cond, List, [], ◌∷◌, ◌++◌, length, take, drop, codes, Option, Some, None, refl, sym, ap, ◌∙◌, subst, arith, ◌⊎◌, inl, inr}
use Rattle.std.specs.Prelude.{◌==◌, ◌&&◌, not}
use Rattle.std.specs.List.{prefix_len, list_all}
use Rattle.std.proofs.lemmas.Bool.{and_parts, and_from, false≢true, eqb-true}
use Rattle.std.proofs.lemmas.List.{length-drop}
use Rattle.gim_ast.specs.Identifiers.{is_block_word, is_reserved}
use Rattle.lexing.specs.Bytes.{is_digit, is_letter, is_word_byte, is_suffix_letter}
use Rattle.lexing.specs.Words.{is_word_text}
use Rattle.lexing.specs.Numbers.{is_number_text}
use Rattle.pm_places.specs.declared.span.Span.{Span}
use Rattle.gim_text.specs.declared.token.Token.{Token}
use Rattle.gim_text.specs.declared.token.Token.TheVariants as tokens
use Rattle.gim_text.specs.declared.token.NumberKind.{NumberKind}
use Rattle.gim_text.specs.declared.token.Mark.{Mark as MarkKind}
use Rattle.gim_text.specs.Meanings.{span_of}
use Rattle.lexing.specs.Tables.{beside}
use Rattle.gim_lexer.specs.Words.{type_words, keyword_table}
use Rattle.gim_lexer.specs.Marks.{short_mark, long_mark, short_marks, long_marks}
use Rattle.lexing.specs.Separators.{opens}
use Rattle.gim_lexer.specs.Tokens.{word_at, number_at, text_at, mark_from, mark_at, token_of_text}
use Rattle.pm_places.specs.Spans.{place}
use Rattle.gim_lexer.specs.Spelled.{IsNumber, Spells}
use Rattle.gim_lexer.specs.Longest.{Covers, OpensComment, IsLongestMatch}
use Rattle.gim_lexer.proofs.Fronts.{word_place}
use Rattle.lexing.proofs.ByteLemmas.{letter_is_word, letter_is_no_digit, digit_is_no_letter}
use Rattle.lexing.proofs.NumberLemmas.{number_is_word}
use Rattle.lexing.specs.Quoted.{IsQuoted, quoted_length}
use Rattle.lexing.proofs.QuotedLemmas.{quoted_found}
use Rattle.lexing.proofs.Runs.{run_begins, no_run, within_run}
use Rattle.lexing.proofs.TableLemmas.{beside_passes}

-- ---- runs

-- digits and then letters of suffixes
number_run : List ℕ → ℕ
number_run text = prefix_len is_digit text + prefix_len is_suffix_letter (drop (prefix_len is_digit text) text)

letters_within : (text : List ℕ) (m : ℕ) → m ≤ length text → list_all is_suffix_letter (take m text) ≡ true → m ≤ number_run text
unfolding number_run
letters_within text zero le h = omega arith
letters_within [] (suc m) le h = absurd (omega arith)
letters_within (b ∷ text) (suc m) le h =
    let first = (and_parts (is_suffix_letter b) (list_all is_suffix_letter (take m text)) h).0 in
    let none : prefix_len is_digit (b ∷ text) ≡ 0 = no_run is_digit b text (letter_is_no_digit b first) in
    rw none (omega (arith, within_run is_suffix_letter (b ∷ text) (suc m) le h))

number_within : (text digits suffix : List ℕ) (m : ℕ) → m ≤ length text → take m text ≡ digits ++ suffix → list_all is_digit digits ≡ true
    → list_all is_suffix_letter suffix ≡ true → m ≤ number_run text
unfolding number_run
number_within text [] suffix m le e ds ls = letters_within text m le (ap (list_all is_suffix_letter) e ∙ ls)
number_within text (d ∷ digits) suffix zero le e ds ls = omega arith
number_within [] (d ∷ digits) suffix (suc m) le e ds ls = absurd (omega arith)
number_within (b ∷ text) (d ∷ digits) suffix (suc m) le e ds ls =
    let same : b ≡ d = cc in
    let rest : take m text ≡ digits ++ suffix = cc in
    let parts = and_parts (is_digit d) (list_all is_digit digits) ds in
    let more : prefix_len is_digit (b ∷ text) ≡ suc (prefix_len is_digit text) = run_begins is_digit b text (ap is_digit same ∙ parts.0) in
    let later = number_within text digits suffix m (omega arith) rest parts.1 ls in
    rw more (omega (arith, later))

-- a byte that begins no word, number or text
is_odd : ℕ → Bool
is_odd b = not (is_letter b) && not (is_digit b) && not (b == 34)

is_short : List ℕ → Bool
is_short (a ∷ []) = is_odd a
is_short bytes = false

is_double : List ℕ → Bool
is_double (a ∷ b ∷ []) = is_odd a
is_double bytes = false

-- ---- words

block_is_word : (bytes : List ℕ) → is_block_word bytes ≡ true → is_word_text bytes ≡ true
block_is_word [] h = absurd (false≢true h)
block_is_word (a ∷ []) h = absurd (false≢true h)
block_is_word (a ∷ b ∷ []) h = absurd (false≢true h)
block_is_word (a ∷ b ∷ c ∷ []) h = absurd (false≢true h)
block_is_word (a ∷ b ∷ c ∷ d ∷ bytes) h =
    let p = and_parts ((a == 95) && (b == 95) && (c == 66) && (d == 66)) (is_number_text bytes) h in
    let q = and_parts ((a == 95) && (b == 95) && (c == 66)) (d == 66) p.0 in
    let r = and_parts ((a == 95) && (b == 95)) (c == 66) q.0 in
    let s = and_parts (a == 95) (b == 95) r.0 in
    rw (eqb-true a 95 s.0, eqb-true b 95 s.1, eqb-true c 66 r.1, eqb-true d 66 q.1) (number_is_word bytes p.1)

-- ---- each kind of token

-- the token that begins a text reaches over m bytes at least
record Reaches (at : ℕ) (text : List ℕ) (m : ℕ) : Type 0 where
  found : Token
  begins : token_of_text at text ≡ Some found
  far : at + m ≤ (span_of found).to

word_end : (at : ℕ) (text : List ℕ) → (span_of (word_at at text)).to ≡ at + prefix_len is_word_byte text
unfolding word_at
word_end at text = ap (λ (s : Span). s.to) (word_place (take (prefix_len is_word_byte text) text) (place at (prefix_len is_word_byte text)))

pub word_begins : (at b : ℕ) (text : List ℕ) → is_letter b ≡ true → token_of_text at (b ∷ text) ≡ Some (word_at at (b ∷ text))
unfolding token_of_text
word_begins at b text h = rw h refl

word_reaches : (at : ℕ) (text : List ℕ) (m : ℕ) → m ≤ length text → is_word_text (take m text) ≡ true → Reaches at text m
word_reaches at text zero le h = absurd (false≢true h)
word_reaches at [] (suc m) le h = absurd (omega arith)
word_reaches at (b ∷ text) (suc m) le h =
    let parts = and_parts (is_letter b) (list_all is_word_byte (take m text)) h in
    let all : list_all is_word_byte (take (suc m) (b ∷ text)) ≡ true = and_from (is_word_byte b) (list_all is_word_byte (take m text)) (letter_is_word b parts.0) parts.1 in
    record {
      found = word_at at (b ∷ text);
      begins = word_begins at b text parts.0;
      far = omega (arith, within_run is_word_byte (b ∷ text) (suc m) le all, word_end at (b ∷ text));
    }

pub number_begins : (at b : ℕ) (text : List ℕ) → is_digit b ≡ true → token_of_text at (b ∷ text) ≡ Some (number_at at (b ∷ text))
unfolding token_of_text
number_begins at b text h = rw (digit_is_no_letter b h, h) refl

number_end : (at : ℕ) (text : List ℕ) → (span_of (number_at at text)).to ≡ at + number_run text
unfolding number_at number_run
number_end at text = refl

number_reaches : (at : ℕ) (text : List ℕ) (m : ℕ) (kind : NumberKind) → m ≤ length text → IsNumber kind (take m text) → Reaches at text m
number_reaches at text m kind le number = by text m number.digits le number.parts number.some_digit number.are_digits where
  by : (text : List ℕ) (m : ℕ) (digits : List ℕ) → m ≤ length text → take m text ≡ digits ++ number.suffix → 0 < length digits
      → list_all is_digit digits ≡ true → Reaches at text m
  by text m [] le e some h = absurd (omega arith)
  by text zero (d ∷ digits) le e some h = absurd cc
  by [] (suc m) (d ∷ digits) le e some h = absurd (omega arith)
  by (b ∷ text) (suc m) (d ∷ digits) le e some h =
      let same : d ≡ b = cc in
      let digit : is_digit b ≡ true = ap is_digit (sym same) ∙ (and_parts (is_digit d) (list_all is_digit digits) h).0 in
      record {
        found = number_at at (b ∷ text);
        begins = number_begins at b text digit;
        far = omega (arith, number_within (b ∷ text) (d ∷ digits) number.suffix (suc m) le e h number.are_letters, number_end at (b ∷ text));
      }

text_begins : (at n : ℕ) (rest : List ℕ) → quoted_length rest ≡ Some n → token_of_text at (34 ∷ rest) ≡ Some (tokens.Text (place at n))
unfolding token_of_text text_at
text_begins at n rest h = rw h refl

text_reaches : (at : ℕ) (text : List ℕ) (m : ℕ) → m ≤ length text → IsQuoted (take m text) → Reaches at text m
text_reaches at text zero le quoted = absurd (nothing quoted.inner quoted.parts) where
  nothing : (inner : List ℕ) → [] ≡ 34 ∷ (inner ++ 34 ∷ []) → ⊥
  nothing inner e = cc
text_reaches at [] (suc m) le quoted = absurd (omega arith)
text_reaches at (b ∷ rest) (suc m) le quoted =
    let parts : b ∷ take m rest ≡ 34 ∷ (quoted.inner ++ 34 ∷ []) = quoted.parts in
    let same : b ≡ 34 = cc in
    let found = quoted_found rest m (omega arith) (subst (λ a. IsQuoted (a ∷ take m rest)) same quoted) in
    subst (λ a. Reaches at (a ∷ rest) (suc m)) (sym same) (record { found = tokens.Text (place at (suc m)); begins = text_begins at (suc m) rest found; far = omega arith })

odd_begins : (at a : ℕ) (text : List ℕ) → is_odd a ≡ true → opens (a ∷ text) (codes "/*") ≡ false
    → token_of_text at (a ∷ text) ≡ mark_at at (a ∷ text)
unfolding token_of_text is_odd
odd_begins at a text odd h = by (is_letter a) (is_digit a) (a == 34) odd where
  by : (l d q : Bool) → (not l && not d && not q) ≡ true
      → cond l (Some (word_at at (a ∷ text))) (cond d (Some (number_at at (a ∷ text))) (cond q (text_at at text) (cond (opens (a ∷ text) (codes "/*")) None (mark_at at (a ∷ text))))) ≡ mark_at at (a ∷ text)
  by true d q odd = absurd (false≢true odd)
  by false true q odd = absurd (false≢true odd)
  by false false true odd = absurd (false≢true odd)
  by false false false odd = rw h refl

mark_reaches : (at m : ℕ) (text : List ℕ) (a : ℕ) (t : Token) → is_odd a ≡ true → mark_at at (a ∷ text) ≡ Some t → at + m ≤ (span_of t).to
    → (opens (a ∷ text) (codes "/*") ≡ true) ⊎ Reaches at (a ∷ text) m
mark_reaches at m text a t odd e far = by (opens (a ∷ text) (codes "/*")) refl where
  by : (o : Bool) → opens (a ∷ text) (codes "/*") ≡ o → (opens (a ∷ text) (codes "/*") ≡ true) ⊎ Reaches at (a ∷ text) m
  by true h = inl h
  by false h = inr (record { found = t; begins = odd_begins at a text odd h ∙ e; far = far })

long_at : (at a b : ℕ) (text : List ℕ) (mark : MarkKind) → long_mark a b ≡ Some mark
    → mark_at at (a ∷ b ∷ text) ≡ Some (tokens.Mark mark (place at 2))
unfolding mark_at
long_at at a b text mark e = rw e refl

long_reaches : (at : ℕ) (text : List ℕ) (m : ℕ) (mark : MarkKind) → m ≤ length text → beside (take m text) long_marks ≡ Some mark
    → (opens text (codes "/*") ≡ true) ⊎ Reaches at text m
unfolding is_double is_odd
long_reaches at text m mark le e = by text m le e (beside_passes is_double long_marks (take m text) mark e refl) where
  by : (text : List ℕ) (m : ℕ) → m ≤ length text → beside (take m text) long_marks ≡ Some mark → is_double (take m text) ≡ true
      → (opens text (codes "/*") ≡ true) ⊎ Reaches at text m
  by text zero le e h = absurd (false≢true h)
  by [] (suc m) le e h = absurd (omega arith)
  by (a ∷ text) (suc zero) le e h = absurd (false≢true h)
  by (a ∷ []) (suc (suc m)) le e h = absurd (omega arith)
  by (a ∷ b ∷ text) (suc (suc zero)) le e h = mark_reaches at 2 (b ∷ text) a (tokens.Mark mark (place at 2)) h (long_at at a b text mark e) (omega arith)
  by (a ∷ b ∷ []) (suc (suc (suc m))) le e h = absurd (omega arith)
  by (a ∷ b ∷ c ∷ text) (suc (suc (suc m))) le e h = absurd (false≢true h)

short_at : (at a : ℕ) (text : List ℕ) (mark : MarkKind) → short_mark a ≡ Some mark
    → (t : Token) × (mark_at at (a ∷ text) ≡ Some t) × (at + 1 ≤ (span_of t).to)
unfolding mark_at
short_at at a [] mark e = (tokens.Mark mark (place at 1), ap (mark_from at None) e, omega arith)
short_at at a (b ∷ text) mark e = by (long_mark a b) where
  by : (l : Option MarkKind) → (t : Token) × (mark_from at l (short_mark a) ≡ Some t) × (at + 1 ≤ (span_of t).to)
  by (Some other) = (tokens.Mark other (place at 2), refl, omega arith)
  by None = (tokens.Mark mark (place at 1), ap (mark_from at None) e, omega arith)

short_reaches : (at : ℕ) (text : List ℕ) (m : ℕ) (mark : MarkKind) → m ≤ length text → beside (take m text) short_marks ≡ Some mark
    → (opens text (codes "/*") ≡ true) ⊎ Reaches at text m
unfolding is_short is_odd
short_reaches at text m mark le e = by text m le e (beside_passes is_short short_marks (take m text) mark e refl) where
  by : (text : List ℕ) (m : ℕ) → m ≤ length text → beside (take m text) short_marks ≡ Some mark → is_short (take m text) ≡ true
      → (opens text (codes "/*") ≡ true) ⊎ Reaches at text m
  by text zero le e h = absurd (false≢true h)
  by [] (suc m) le e h = absurd (omega arith)
  by (a ∷ text) (suc zero) le e h = let s = short_at at a text mark e in mark_reaches at 1 text a s.0 h s.1 s.2
  by (a ∷ []) (suc (suc m)) le e h = absurd (omega arith)
  by (a ∷ b ∷ text) (suc (suc m)) le e h = absurd (false≢true h)

-- ---- all of them

reaches : (at : ℕ) (text : List ℕ) (m : ℕ) (t : Token) → m ≤ length text → Spells (take m text) t
    → (opens text (codes "/*") ≡ true) ⊎ Reaches at text m
reaches at text m (tokens.TypeWord word span) le s = inr (word_reaches at text m le (beside_passes is_word_text type_words (take m text) word s refl))
reaches at text m (tokens.Keyword word span) le s = inr (word_reaches at text m le (beside_passes is_word_text keyword_table (take m text) word s refl))
reaches at text m (tokens.BlockWord span) le s = inr (word_reaches at text m le (block_is_word (take m text) s))
reaches at text m (tokens.Ssa span) le s = inr (word_reaches at text m le (ap is_word_text s))
reaches at text m (tokens.Identifier span) le s = inr (word_reaches at text m le (and_parts (is_word_text (take m text)) (not (is_reserved (take m text))) s).0)
reaches at text m (tokens.Number kind span) le s = inr (number_reaches at text m kind le s)
reaches at text m (tokens.Text span) le s = inr (text_reaches at text m le s)
reaches at text m (tokens.Mark mark span) le (inl s) = long_reaches at text m mark le s
reaches at text m (tokens.Mark mark span) le (inr s) = short_reaches at text m mark le s

pub longest_match : (source : List ℕ) → IsLongestMatch source
longest_match source from to le le' s =
    let left : length (drop from source) ≡ length source - from = length-drop from source in
    by (reaches from (drop from source) (to - from) s.0 (omega arith) s.1) where
      by : (opens (drop from source) (codes "/*") ≡ true) ⊎ Reaches from (drop from source) (to - from)
          → OpensComment source from ⊎ Covers source from to
      by (inl h) = inl h
      by (inr r) = inr (record { token = r.found; begins = r.begins; reaches = omega (arith, r.far) })
