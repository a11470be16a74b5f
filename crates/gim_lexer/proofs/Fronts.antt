-- What begins a text: how long it is, and which bytes it has.
use Rattle.std.proofs.Common.{◌≡◌, ℕ, suc, ◌+◌, ◌-◌, ◌<◌, ◌≤◌, Bool, true, false, cond, List, [], ◌∷◌, ◌++◌, length, take, drop, codes, Option, Some, None, refl, sym, ap, ◌∙◌, subst, arith, inl, inr}
use Rattle.std.specs.Prelude.{option_map, map, ◌==◌, ◌||◌, ◌&&◌, not}
use Rattle.std.specs.List.{prefix_len, list_all, list_any}
use Rattle.std.specs.Str.{bytes_eq}
use Rattle.std.specs.Cmp.Lexicographic.{bytes_decides}
use Rattle.std.proofs.lemmas.Bool.{and_from, or_from, false≢true, eqb-true}
use Rattle.std.proofs.lemmas.List.{length-drop, length-take-le}
use Rattle.std.proofs.lemmas.List.Sums.{prefix_len-le-length}
use Rattle.std.proofs.lemmas.List.Folds.{list_any-append}
use Rattle.std.proofs.Math.Seq.{take-add}
use Rattle.gim_ast.specs.Identifiers.{is_block_word, is_reserved, reserved_words}
use Rattle.lexing.specs.Bytes.{is_digit, is_letter, is_word_byte, is_suffix_letter}
use Rattle.lexing.specs.Words.{is_word_text}
use Rattle.pm_places.specs.declared.span.Span.{Span}
use Rattle.gim_text.specs.declared.token.Token.{Token}
use Rattle.gim_text.specs.declared.token.Token.TheVariants as tokens
use Rattle.gim_text.specs.declared.token.TypeWord.{TypeWord}
use Rattle.gim_text.specs.declared.token.Keyword.{Keyword}
use Rattle.gim_text.specs.declared.token.Mark.{Mark as MarkKind}
use Rattle.gim_text.specs.Meanings.{span_of}
use Rattle.gim_lexer.specs.Words.{type_words, keyword_table, type_word_of, keyword_of, plain_word, word_from, word_token}
use Rattle.gim_lexer.specs.Marks.{short_mark, long_mark}
use Rattle.gim_lexer.specs.Separators.{opens_note, separator_length}
use Rattle.lexing.specs.Separators.{opens, begins_with_space, is_no_line_feed, line_length, comment_length}
use Rattle.gim_lexer.specs.Tokens.{word_at, number_at, text_at, mark_from, mark_at, token_of_text}
use Rattle.pm_places.specs.Spans.{place}
use Rattle.gim_lexer.specs.Spelled.{Spells}
use Rattle.lexing.proofs.ByteLemmas.{letter_is_word}
use Rattle.lexing.proofs.Comments.{comment_within}
use Rattle.lexing.proofs.Opening.{opens_first}
use Rattle.lexing.specs.Quoted.{quoted_length}
use Rattle.lexing.proofs.QuotedLemmas.{quoted_front}
use Rattle.lexing.proofs.Runs.{run_passes, run_begins}
use Rattle.lexing.proofs.TableLemmas.{none_among}

some_is : {X : Type 0} (x y : X) → Some x ≡ Some y → x ≡ y
some_is x y e = cc

same_bytes : (a b : List ℕ) → bytes_eq a b ≡ true → a ≡ b
same_bytes a b h = (bytes_decides a b).0 h

-- ---- separators

note_first : (line_begins : Bool) (b : ℕ) (text : List ℕ) → opens_note line_begins (b ∷ text) ≡ true → is_no_line_feed b ≡ true
note_first line_begins b text h = by (opens (b ∷ text) (codes "//")) line_begins (opens (b ∷ text) (codes ";;")) refl refl h where
  by : (u l v : Bool) → opens (b ∷ text) (codes "//") ≡ u → opens (b ∷ text) (codes ";;") ≡ v → (u || (l && v)) ≡ true → is_no_line_feed b ≡ true
  by true l v p q h = ap is_no_line_feed (sym (opens_first b 47 text (codes "/") p))
  by false true true p q h = ap is_no_line_feed (sym (opens_first b 59 text (codes ";") q))
  by false true false p q h = absurd (false≢true h)
  by false false v p q h = absurd (false≢true h)

note_within : (line_begins : Bool) (text : List ℕ) → opens_note line_begins text ≡ true → (0 < line_length text) × (line_length text ≤ length text)
note_within true [] h = absurd (false≢true h)
note_within false [] h = absurd (false≢true h)
note_within line_begins (b ∷ text) h =
    let e : line_length (b ∷ text) ≡ suc (line_length text) = run_begins is_no_line_feed b text (note_first line_begins b text h) in
    (omega (arith, e), prefix_len-le-length is_no_line_feed (b ∷ text))

space_long : (text : List ℕ) → begins_with_space text ≡ true → 0 < length text
space_long [] h = absurd (false≢true h)
space_long (b ∷ text) h = omega arith

pub separator_within : (line_begins : Bool) (text : List ℕ) (n : ℕ) → separator_length line_begins text ≡ Some n → (0 < n) × (n ≤ length text)
unfolding separator_length
separator_within line_begins text n e =
    by (begins_with_space text) (opens_note line_begins text) (space_long text) (note_within line_begins text) e where
      by : (s t : Bool) → (s ≡ true → 0 < length text) → (t ≡ true → (0 < line_length text) × (line_length text ≤ length text))
          → cond s (Some 1) (cond t (Some (line_length text)) (comment_length text)) ≡ Some n → (0 < n) × (n ≤ length text)
      by true t space note e = let same : 1 ≡ n = some_is 1 n e in let long = space refl in (omega arith, omega arith)
      by false true space note e = let same : line_length text ≡ n = some_is (line_length text) n e in let w = note refl in (omega (arith, w), omega (arith, w))
      by false false space note e = comment_within text n e

-- ---- words

-- what begins a text: a token with its bytes
pub record Front (at : ℕ) (text : List ℕ) (t : Token) : Type 0 where
  pub len : ℕ
  pub at_place : span_of t ≡ place at len
  pub long : 0 < len
  pub within : len ≤ length text
  pub spelled : Spells (take len text) t

not_reserved : (word : List ℕ) → type_word_of word ≡ None → keyword_of word ≡ None → is_block_word word ≡ false → is_reserved word ≡ false
not_reserved word t k b =
    let types = map (λ (row : List ℕ × TypeWord). row.0) type_words in
    let keywords = map (λ (row : List ℕ × Keyword). row.0) keyword_table in
    let none : list_any (λ w. bytes_eq w word) (types ++ keywords) ≡ false =
    list_any-append (λ w. bytes_eq w word) types keywords
    ∙ or_from (list_any (λ w. bytes_eq w word) types) (list_any (λ w. bytes_eq w word) keywords) (none_among word type_words t) (none_among word keyword_table k) in
    or_from (list_any (λ w. bytes_eq w word) reserved_words) (is_block_word word) none b

plain_place : (word : List ℕ) (span : Span) → span_of (plain_word word span) ≡ span
plain_place word span = by (is_block_word word) (bytes_eq word (codes "ssa")) where
  by : (b s : Bool) → span_of (cond b (tokens.BlockWord span) (cond s (tokens.Ssa span) (tokens.Identifier span))) ≡ span
  by true s = refl
  by false true = refl
  by false false = refl

pub word_place : (word : List ℕ) (span : Span) → span_of (word_token word span) ≡ span
unfolding word_token
word_place word span = by (type_word_of word) (keyword_of word) where
  by : (t : Option TypeWord) (k : Option Keyword) → span_of (word_from t k word span) ≡ span
  by (Some found) k = refl
  by None (Some found) = refl
  by None None = plain_place word span

plain_spelled : (word : List ℕ) (span : Span) → is_word_text word ≡ true → type_word_of word ≡ None → keyword_of word ≡ None
    → Spells word (plain_word word span)
plain_spelled word span text t k = by (is_block_word word) (bytes_eq word (codes "ssa")) refl refl where
  by : (b s : Bool) → is_block_word word ≡ b → bytes_eq word (codes "ssa") ≡ s
      → Spells word (cond b (tokens.BlockWord span) (cond s (tokens.Ssa span) (tokens.Identifier span)))
  by true s p q = p
  by false true p q = same_bytes word (codes "ssa") q
  by false false p q = and_from (is_word_text word) (not (is_reserved word)) text (ap not (not_reserved word t k p))

word_spelled : (word : List ℕ) (span : Span) → is_word_text word ≡ true → Spells word (word_token word span)
unfolding word_token
word_spelled word span text = by (type_word_of word) (keyword_of word) refl refl where
  by : (t : Option TypeWord) (k : Option Keyword) → type_word_of word ≡ t → keyword_of word ≡ k → Spells word (word_from t k word span)
  by (Some found) k p q = p
  by None (Some found) p q = q
  by None None p q = plain_spelled word span text p q

word_front : (at b : ℕ) (text : List ℕ) → is_letter b ≡ true → Front at (b ∷ text) (word_at at (b ∷ text))
unfolding word_at
word_front at b text h =
    let n = prefix_len is_word_byte (b ∷ text) in
    let e : n ≡ suc (prefix_len is_word_byte text) = run_begins is_word_byte b text (letter_is_word b h) in
    let word : is_word_text (take n (b ∷ text)) ≡ true = rw e (and_from (is_letter b) (list_all is_word_byte (take (prefix_len is_word_byte text) text)) h (run_passes is_word_byte text)) in
    record {
      len = n;
      at_place = word_place (take n (b ∷ text)) (place at n);
      long = omega arith;
      within = prefix_len-le-length is_word_byte (b ∷ text);
      spelled = word_spelled (take n (b ∷ text)) (place at n) word;
    }

-- ---- numbers, texts and marks

number_front : (at b : ℕ) (text : List ℕ) → is_digit b ≡ true → Front at (b ∷ text) (number_at at (b ∷ text))
unfolding number_at
number_front at b text h =
    let n = prefix_len is_digit (b ∷ text) in
    let rest = drop n (b ∷ text) in
    let m = prefix_len is_suffix_letter rest in
    let e : n ≡ suc (prefix_len is_digit text) = run_begins is_digit b text h in
    let left : length rest ≡ length (b ∷ text) - n = length-drop n (b ∷ text) in
    let few : n ≤ length (b ∷ text) = prefix_len-le-length is_digit (b ∷ text) in
    let few_letters : m ≤ length rest = prefix_len-le-length is_suffix_letter rest in
    record {
      len = n + m;
      at_place = refl;
      long = omega arith;
      within = omega arith;
      spelled = record {
        digits = take n (b ∷ text);
        suffix = take m rest;
        some_digit = omega (arith, length-take-le n (b ∷ text) few);
        parts = take-add n m (b ∷ text);
        are_digits = run_passes is_digit (b ∷ text);
        are_letters = run_passes is_suffix_letter rest;
        is_kind = refl;
      };
    }

text_front : (at : ℕ) (rest : List ℕ) (t : Token) → text_at at rest ≡ Some t → Front at (34 ∷ rest) t
unfolding text_at
text_front at rest t e = by (quoted_length rest) refl e where
  by : (o : Option ℕ) → quoted_length rest ≡ o → option_map (λ n. tokens.Text (place at n)) o ≡ Some t → Front at (34 ∷ rest) t
  by None p e = absurd cc
  by (Some n) p e =
      let f = quoted_front rest n p in
      subst (Front at (34 ∷ rest)) (some_is (tokens.Text (place at n)) t e) (record { len = n; at_place = refl; long = f.long; within = omega (arith, f.within); spelled = f.is_quoted })

short_front : (at a : ℕ) (text : List ℕ) (t : Token) (m : MarkKind) → short_mark a ≡ Some m → Some (tokens.Mark m (place at 1)) ≡ Some t
    → Front at (a ∷ text) t
short_front at a text t m p e =
    subst (Front at (a ∷ text)) (some_is (tokens.Mark m (place at 1)) t e) (record { len = 1; at_place = refl; long = omega arith; within = omega arith; spelled = inr p })

mark_front : (at : ℕ) (text : List ℕ) (t : Token) → mark_at at text ≡ Some t → Front at text t
unfolding mark_at
mark_front at [] t e = absurd cc
mark_front at (a ∷ []) t e = by (short_mark a) refl e where
  by : (s : Option MarkKind) → short_mark a ≡ s → mark_from at None s ≡ Some t → Front at (a ∷ []) t
  by None p e = absurd cc
  by (Some m) p e = short_front at a [] t m p e
mark_front at (a ∷ b ∷ text) t e = by (long_mark a b) (short_mark a) refl refl e where
  by : (l s : Option MarkKind) → long_mark a b ≡ l → short_mark a ≡ s → mark_from at l s ≡ Some t → Front at (a ∷ b ∷ text) t
  by (Some m) s p q e =
      subst (Front at (a ∷ b ∷ text)) (some_is (tokens.Mark m (place at 2)) t e) (record { len = 2; at_place = refl; long = omega arith; within = omega arith; spelled = inl p })
  by None (Some m) p q e = short_front at a (b ∷ text) t m q e
  by None None p q e = absurd cc

pub token_front : (at : ℕ) (text : List ℕ) (t : Token) → token_of_text at text ≡ Some t → Front at text t
unfolding token_of_text
token_front at [] t e = absurd cc
token_front at (b ∷ text) t e = by (is_letter b) (is_digit b) (b == 34) (opens (b ∷ text) (codes "/*")) refl refl refl e where
  by : (l d q c : Bool) → is_letter b ≡ l → is_digit b ≡ d → (b == 34) ≡ q
      → cond l (Some (word_at at (b ∷ text))) (cond d (Some (number_at at (b ∷ text))) (cond q (text_at at text) (cond c None (mark_at at (b ∷ text))))) ≡ Some t → Front at (b ∷ text) t
  by true d q c h i j e = subst (Front at (b ∷ text)) (some_is (word_at at (b ∷ text)) t e) (word_front at b text h)
  by false true q c h i j e = subst (Front at (b ∷ text)) (some_is (number_at at (b ∷ text)) t e) (number_front at b text i)
  by false false true c h i j e = subst (λ a. Front at (a ∷ text) t) (sym (eqb-true b 34 j)) (text_front at text t e)
  by false false false true h i j e = absurd cc
  by false false false false h i j e = mark_front at (b ∷ text) t e
