-- What begins a text: how long it is, and what its bytes spell.
use Rattle.std.proofs.Common.{◌≡◌, ℕ, zero, suc, ◌+◌, ◌-◌, ◌<◌, ◌≤◌, Bool, true, false, cond, List, [], ◌∷◌, length, take, drop, codes, Option, Some, None, refl, sym, ap, ◌∙◌, subst, arith, inl, inr}
use Rattle.std.specs.Prelude.{option_map, ◌==◌}
use Rattle.std.specs.List.{prefix_len, list_all}
use Rattle.std.proofs.lemmas.Bool.{and_from, and_parts, false≢true, eqb-true, ne_eqb}
use Rattle.std.proofs.lemmas.List.{length-drop, length-take-le}
use Rattle.std.proofs.lemmas.List.Sums.{prefix_len-le-length}
use Rattle.std.proofs.Math.Seq.{take-add}
use Rattle.lexing.specs.Bytes.{is_digit, is_letter, is_word_byte, is_suffix_letter}
use Rattle.lexing.specs.Words.{is_word_text}
use Rattle.lexing.specs.Separators.{opens, begins_with_space, line_length, comment_length, is_no_line_feed}
use Rattle.lexing.specs.Quoted.{quoted_length}
use Rattle.lexing.proofs.ByteLemmas.{letter_is_word}
use Rattle.lexing.proofs.Comments.{comment_within}
use Rattle.lexing.proofs.Opening.{opens_first}
use Rattle.lexing.proofs.QuotedLemmas.{quoted_front}
use Rattle.lexing.proofs.Runs.{run_passes, run_begins}
use Rattle.pd_lexer.specs.declared.token.TokenKind.{TokenKind}
use Rattle.pd_lexer.specs.declared.token.TokenKind.TheVariants.{Ident, Number, Capture, ValueCapture, Text, Punct}
use Rattle.pd_lexer.specs.Marks.{is_mark, mark_length}
use Rattle.pd_lexer.specs.Numbers.{is_hex_digit, AreDigits, decimal, hexadecimal, hex_length, digits_length, number_length}
use Rattle.pd_lexer.specs.Pieces.{separator_length}
use Rattle.pd_lexer.specs.Spelled.{IsName, Spells}
use Rattle.pd_lexer.specs.Tokens.{name_length, capture_of, capture_front, token_front}

-- a token of the kind
abbrev pub of_kind : TokenKind → ℕ → TokenKind × ℕ
of_kind kind n = (kind, n)

pub positive : (k : ℕ) → (suc k == 0) ≡ false
positive k = ne_eqb (suc k) 0 (λ e. cc)

some_is : {X : Type 0} (x y : X) → Some x ≡ Some y → x ≡ y
some_is x y e = cc

pub opens_one : (b : ℕ) (text : List ℕ) → opens text (b ∷ []) ≡ true → text ≡ b ∷ drop 1 text
opens_one b [] h = absurd (false≢true h)
opens_one b (a ∷ text) h = ap (λ x. x ∷ text) (sym (opens_first a b text [] h))

pub opens_two : (b c : ℕ) (text : List ℕ) → opens text (b ∷ c ∷ []) ≡ true → text ≡ b ∷ c ∷ drop 2 text
opens_two b c [] h = absurd (false≢true h)
opens_two b c (a ∷ text) h =
    let parts = and_parts (b == a) (opens text (c ∷ [])) h in
    let first : a ≡ b = sym (eqb-true b a parts.0) in
    let rest : text ≡ c ∷ drop 1 text = opens_one c text parts.1 in
    let later : drop 1 text ≡ drop 2 (a ∷ text) = refl in
    ap (λ x. x ∷ text) first ∙ ap (λ bs. b ∷ bs) rest

-- ---- separators

pub line_long : (b : ℕ) (text : List ℕ) → is_no_line_feed b ≡ true → (0 < line_length (b ∷ text)) × (line_length (b ∷ text) ≤ length (b ∷ text))
line_long b text h =
    let e : line_length (b ∷ text) ≡ suc (line_length text) = run_begins is_no_line_feed b text h in
    (omega (arith, e), prefix_len-le-length is_no_line_feed (b ∷ text))

-- a line that begins with a byte other than a line feed
pub opened_line : (b : ℕ) (text : List ℕ) → is_no_line_feed b ≡ true → text ≡ b ∷ drop 1 text
    → (0 < line_length text) × (line_length text ≤ length text)
opened_line b text h e = subst (λ bs. (0 < line_length bs) × (line_length bs ≤ length bs)) (sym e) (line_long b (drop 1 text) h)

space_long : (text : List ℕ) → begins_with_space text ≡ true → 0 < length text
space_long [] h = absurd (false≢true h)
space_long (b ∷ text) h = omega arith

note_within : (text : List ℕ) → opens text (codes "//") ≡ true → (0 < line_length text) × (line_length text ≤ length text)
note_within text h = subst (λ bs. (0 < line_length bs) × (line_length bs ≤ length bs)) (sym (opens_two 47 47 text h)) (line_long 47
    (47 ∷ drop 2 text) refl)

pub separator_within : (text : List ℕ) (n : ℕ) → separator_length text ≡ Some n → (0 < n) × (n ≤ length text)
unfolding separator_length
separator_within text n e = by (begins_with_space text) (opens text (codes "//")) (space_long text) (note_within text) e where
  by : (s t : Bool) → (s ≡ true → 0 < length text) → (t ≡ true → (0 < line_length text) × (line_length text ≤ length text))
      → cond s (Some 1) (cond t (Some (line_length text)) (comment_length text)) ≡ Some n → (0 < n) × (n ≤ length text)
  by true t space note e = let same : 1 ≡ n = some_is 1 n e in let long = space refl in (omega arith, omega arith)
  by false true space note e = let same : line_length text
      ≡ n = some_is (line_length text) n e in let w = note refl in (omega (arith, w), omega (arith, w))
  by false false space note e = comment_within text n e

-- ---- runs

-- a run that has bytes
record Run (p : ℕ → Bool) (text : List ℕ) : Type 0 where
  long : 0 < prefix_len p text
  within : prefix_len p text ≤ length text
  passes : list_all p (take (prefix_len p text) text) ≡ true

run : (p : ℕ → Bool) (b : ℕ) (text : List ℕ) → p b ≡ true → Run p (b ∷ text)
run p b text h =
    let e : prefix_len p (b ∷ text) ≡ suc (prefix_len p text) = run_begins p b text h in
    record { long = omega (arith, e); within = prefix_len-le-length p (b ∷ text); passes = run_passes p (b ∷ text) }

pub word_run : (b : ℕ) (text : List ℕ) → is_letter b ≡ true → is_word_text (take (prefix_len is_word_byte (b ∷ text)) (b ∷ text)) ≡ true
word_run b text h =
    let e : prefix_len is_word_byte (b ∷ text) ≡ suc (prefix_len is_word_byte text) = run_begins is_word_byte b text (letter_is_word b h) in
    rw e (and_from (is_letter b) (list_all is_word_byte (take (prefix_len is_word_byte text) text)) h (run_passes is_word_byte text))

-- ---- each kind of token

-- what begins a text: a token with its bytes
pub record Front (text : List ℕ) (kind : TokenKind) (n : ℕ) : Type 0 where
  pub long : 0 < n
  pub within : n ≤ length text
  pub spelled : Spells (take n text) kind

word_front : (b : ℕ) (text : List ℕ) → is_letter b ≡ true → Front (b ∷ text) Ident (prefix_len is_word_byte (b ∷ text))
word_front b text h =
    let r = run is_word_byte b text (letter_is_word b h) in
    record { long = r.long; within = r.within; spelled = word_run b text h }

-- the digits at the front
record DigitsFront (text : List ℕ) (n : ℕ) : Type 0 where
  long : 0 < n
  within : n ≤ length text
  are : AreDigits (take n text)

decimal_front : (b : ℕ) (text : List ℕ) → is_digit b ≡ true → DigitsFront (b ∷ text) (prefix_len is_digit (b ∷ text))
decimal_front b text h =
    let e : prefix_len is_digit (b ∷ text) ≡ suc (prefix_len is_digit text) = run_begins is_digit b text h in
    let r = run is_digit b text h in
    record {
      long = r.long;
      within = r.within;
      are = rw e (decimal b (take (prefix_len is_digit text) text) (and_from (is_digit b) (list_all is_digit (take
          (prefix_len is_digit text) text)) h (run_passes is_digit text)));
    }

hex_front : (rest : List ℕ) (k : ℕ) → prefix_len is_hex_digit rest ≡ suc k → DigitsFront (48 ∷ 120 ∷ rest) (2 + suc k)
hex_front [] k e = absurd cc
hex_front (d ∷ rest) k e =
    let all_bytes : 2 + suc k ≡ suc (suc (suc k)) = omega arith in
    let few : prefix_len is_hex_digit (d ∷ rest) ≤ length (d ∷ rest) = prefix_len-le-length is_hex_digit (d ∷ rest) in
    let all : list_all is_hex_digit (take (suc k) (d ∷ rest)) ≡ true = ap (λ n. list_all is_hex_digit (take n (d ∷ rest))) (sym e)
    ∙ run_passes is_hex_digit (d ∷ rest) in
    rw all_bytes (record { long = omega arith; within = omega (arith, few, e); are = hexadecimal d (take k rest) all })

digits_front : (b : ℕ) (text : List ℕ) → is_digit b ≡ true → DigitsFront (b ∷ text) (digits_length (b ∷ text))
unfolding digits_length hex_length
digits_front b text h = by (opens (b ∷ text) (codes "0x")) refl where
  hex : (k : ℕ) → prefix_len is_hex_digit (drop 2 (b ∷ text)) ≡ k → opens (b ∷ text) (codes "0x") ≡ true
      → DigitsFront (b ∷ text) (cond (k == 0) (prefix_len is_digit (b ∷ text)) (2 + k))
  hex zero e o = decimal_front b text h
  hex (suc k) e o = rw (positive k) (subst (λ bs. DigitsFront bs (2 + suc k)) (sym (opens_two 48 120 (b ∷ text) o)) (hex_front (drop 2
      (b ∷ text)) k e))

  by : (o : Bool) → opens (b ∷ text) (codes "0x") ≡ o
      → DigitsFront (b ∷ text) (cond (cond o (prefix_len is_hex_digit (drop 2 (b ∷ text))) 0 == 0) (prefix_len is_digit (b ∷ text)) (2 + cond o
      (prefix_len is_hex_digit (drop 2 (b ∷ text))) 0))
  by false o = decimal_front b text h
  by true o = hex (prefix_len is_hex_digit (drop 2 (b ∷ text))) refl o

number_front : (b : ℕ) (text : List ℕ) → is_digit b ≡ true → Front (b ∷ text) Number (number_length (b ∷ text))
unfolding number_length
number_front b text h =
    let n = digits_length (b ∷ text) in
    let front = digits_front b text h in
    let rest = drop n (b ∷ text) in
    let m = prefix_len is_suffix_letter rest in
    let left : length rest ≡ length (b ∷ text) - n = length-drop n (b ∷ text) in
    let few : m ≤ length rest = prefix_len-le-length is_suffix_letter rest in
    record {
      long = omega (arith, front.long);
      within = omega (arith, front.within);
      spelled = record {
        digits = take n (b ∷ text);
        letters = take m rest;
        parts = take-add n m (b ∷ text);
        are_digits = front.are;
        are_letters = run_passes is_suffix_letter rest;
      };
    }

text_front : (rest : List ℕ) (kind : TokenKind) (n : ℕ) → option_map (of_kind Text) (quoted_length rest) ≡ Some (kind, n) → Front (34 ∷ rest) kind n
text_front rest kind n e = by (quoted_length rest) refl e where
  by : (o : Option ℕ) → quoted_length rest ≡ o → option_map (of_kind Text) o ≡ Some (kind, n) → Front (34 ∷ rest) kind n
  by None p e = absurd cc
  by (Some m) p e =
      let f = quoted_front rest m p in
      subst (λ (found : TokenKind × ℕ). Front (34 ∷ rest) found.0 found.1) (some_is (Text, m) (kind, n) e) (record {
        long = f.long;
        within = omega
            (arith, f.within);
        spelled = f.is_quoted;
      })

-- ---- captures

-- the name at the front
record NameFront (text : List ℕ) (n : ℕ) : Type 0 where
  within : n ≤ length text
  named : IsName (take n text)

digit_name : (b : ℕ) (text : List ℕ) → is_digit b ≡ true → NameFront (b ∷ text) (prefix_len is_digit (b ∷ text))
digit_name b text h =
    let r = run is_digit b text h in
    let short : length (take (prefix_len is_digit (b ∷ text)) (b ∷ text))
    ≡ prefix_len is_digit (b ∷ text) = length-take-le (prefix_len is_digit (b ∷ text)) (b ∷ text) r.within in
    record { within = r.within; named = inl (omega (arith, short, r.long), r.passes) }

word_name : (b : ℕ) (text : List ℕ) (k : ℕ) → is_digit b ≡ false → prefix_len is_word_byte (b ∷ text) ≡ suc k
    → NameFront (b ∷ text) (prefix_len is_word_byte (b ∷ text))
word_name b text k other e = by (is_letter b) refl where
  by : (l : Bool) → is_letter b ≡ l → NameFront (b ∷ text) (prefix_len is_word_byte (b ∷ text))
  by true h = record { within = prefix_len-le-length is_word_byte (b ∷ text); named = inr (word_run b text h) }
  by false h = absurd (none (rw (h, other) refl)) where
    none : is_word_byte b ≡ false → ⊥
    none f = let zero_run : prefix_len is_word_byte (b ∷ text) ≡ 0 = rw f refl in omega (arith, zero_run, e)

name_front : (text : List ℕ) (k : ℕ) → name_length text ≡ suc k → NameFront text (name_length text)
unfolding name_length
name_front [] k e = absurd cc
name_front (b ∷ text) k e = by (is_digit b) refl e where
  by : (d : Bool) → is_digit b ≡ d → cond d (prefix_len is_digit (b ∷ text)) (prefix_len is_word_byte (b ∷ text)) ≡ suc k
      → NameFront (b ∷ text) (cond d (prefix_len is_digit (b ∷ text)) (prefix_len is_word_byte (b ∷ text)))
  by true h e = digit_name b text h
  by false h e = word_name b text k h e

is_capture_of : (kind : TokenKind) (ats k : ℕ) → capture_of kind ats (suc k) ≡ Some (kind, ats + suc k)
is_capture_of kind ats k = rw (positive k) refl

one_at : (rest : List ℕ) (k : ℕ) → name_length rest ≡ k → (kind : TokenKind) (n : ℕ) → capture_of Capture 1 k ≡ Some (kind, n)
    → Front (64 ∷ rest) kind n
one_at rest zero e kind n c = absurd cc
one_at rest (suc k) e kind n c =
    let name = name_front rest k e in
    let named : IsName (take (suc k) rest) = subst (λ m. IsName (take m rest)) e name.named in
    let bytes : 1 + suc k ≡ suc (suc k) = omega arith in
    subst (λ (found : TokenKind × ℕ). Front (64 ∷ rest) found.0 found.1) (some_is (Capture, 1 + suc k) (kind, n) (sym (is_capture_of Capture 1 k)
    ∙ c))
    (rw bytes (record {
      long = omega arith;
      within = omega (arith, name.within, e);
      spelled = record {
        name = take
            (suc k) rest;
        parts = refl;
        named = named;
      };
    }))

two_ats : (rest : List ℕ) (k : ℕ) → name_length rest ≡ k → (kind : TokenKind) (n : ℕ) → capture_of ValueCapture 2 k ≡ Some (kind, n)
    → Front (64 ∷ 64 ∷ rest) kind n
two_ats rest zero e kind n c = absurd cc
two_ats rest (suc k) e kind n c =
    let name = name_front rest k e in
    let named : IsName (take (suc k) rest) = subst (λ m. IsName (take m rest)) e name.named in
    let bytes : 2 + suc k ≡ suc (suc (suc k)) = omega arith in
    subst (λ (found : TokenKind × ℕ). Front (64 ∷ 64 ∷ rest) found.0 found.1) (some_is (ValueCapture, 2 + suc k) (kind, n) (sym
    (is_capture_of ValueCapture 2 k) ∙ c))
    (rw bytes (record {
      long = omega arith;
      within = omega (arith, name.within, e);
      spelled = record {
        name = take
            (suc k) rest;
        parts = refl;
        named = named;
      };
    }))

capture_begins : (rest : List ℕ) (kind : TokenKind) (n : ℕ) → capture_front rest ≡ Some (kind, n) → Front (64 ∷ rest) kind n
unfolding capture_front
capture_begins rest kind n e = by (opens rest (codes "@")) refl e where
  by : (o : Bool) → opens rest (codes "@") ≡ o
      → cond o (capture_of ValueCapture 2 (name_length (drop 1 rest))) (capture_of Capture 1 (name_length rest)) ≡ Some (kind, n)
      → Front (64 ∷ rest) kind n
  by true o e = subst (λ bs. Front (64 ∷ bs) kind n) (sym (opens_one 64 rest o)) (two_ats (drop 1 rest) (name_length (drop 1 rest)) refl kind n e)
  by false o e = one_at rest (name_length rest) refl kind n e

-- ---- marks

front_again : (text : List ℕ) (n : ℕ) → take (length (take n text)) text ≡ take n text
front_again text zero = refl
front_again [] (suc n) = refl
front_again (b ∷ text) (suc n) = ap (λ bs. b ∷ bs) (front_again text n)

front_short : (text : List ℕ) (n : ℕ) → length (take n text) ≤ length text
front_short text zero = omega arith
front_short [] (suc n) = omega arith
front_short (b ∷ text) (suc n) = let later = front_short text n in omega (arith, later)

mark_long : (bytes : List ℕ) → is_mark bytes ≡ true → 0 < length bytes
unfolding is_mark
mark_long [] h = absurd (false≢true h)
mark_long (b ∷ bytes) h = omega arith

mark_here : (text : List ℕ) (n : ℕ) → is_mark (take n text) ≡ true → Front text Punct (length (take n text))
mark_here text n h = record { long = mark_long (take n text) h; within = front_short text n; spelled = ap is_mark (front_again text n) ∙ h }

one_byte : (text : List ℕ) → is_mark (take 1 text) ≡ true → length (take 1 text) ≡ 1
one_byte [] h = absurd (let long : 0 < 0 = mark_long [] h in omega arith)
one_byte (b ∷ text) h = refl

mark_front : (text : List ℕ) (kind : TokenKind) (n : ℕ) → option_map (of_kind Punct) (mark_length text) ≡ Some (kind, n) → Front text kind n
unfolding mark_length
mark_front text kind n e = by (is_mark (take 2 text)) (is_mark (take 1 text)) refl refl e where
  by : (two one : Bool) → is_mark (take 2 text) ≡ two → is_mark (take 1 text) ≡ one
      → option_map (of_kind Punct) (cond two (Some (length (take 2 text))) (cond one (Some 1) None)) ≡ Some (kind, n) → Front text kind n
  by true one p q e = subst (λ (found : TokenKind × ℕ). Front text found.0 found.1) (some_is (Punct, length (take 2 text)) (kind, n) e)
      (mark_here text 2 p)
  by false true p q e =
      subst (λ (found : TokenKind × ℕ). Front text found.0 found.1) (some_is (Punct, 1) (kind, n) e) (subst (Front text Punct) (one_byte text q)
      (mark_here text 1 q))
  by false false p q e = absurd cc

-- ---- all of them

pub front_of : (text : List ℕ) (kind : TokenKind) (n : ℕ) → token_front text ≡ Some (kind, n) → Front text kind n
unfolding token_front
front_of [] kind n e = absurd cc
front_of (b ∷ text) kind n e = by (is_letter b) (is_digit b) (b == 34) (b == 64) refl refl refl refl e where
  by : (l d q a : Bool) → is_letter b ≡ l → is_digit b ≡ d → (b == 34) ≡ q → (b == 64) ≡ a
      → cond l (Some (Ident, prefix_len is_word_byte (b ∷ text))) (cond d (Some (Number, number_length (b ∷ text))) (cond q (option_map
      (of_kind Text) (quoted_length text)) (cond a (capture_front text) (option_map (of_kind Punct) (mark_length (b ∷ text)))))) ≡ Some (kind, n)
      → Front (b ∷ text) kind n
  by true d q a h i j k e = subst (λ (found : TokenKind × ℕ). Front (b ∷ text) found.0 found.1) (some_is (
    Ident,
    prefix_len is_word_byte
        (b ∷ text),
  ) (kind, n) e) (word_front b text h)
  by false true q a h i j k e = subst (λ (found : TokenKind × ℕ). Front (b ∷ text) found.0 found.1) (some_is (Number, number_length (b ∷ text))
      (kind, n) e) (number_front b text i)
  by false false true a h i j k e = subst (λ c. Front (c ∷ text) kind n) (sym (eqb-true b 34 j)) (text_front text kind n e)
  by false false false true h i j k e = subst (λ c. Front (c ∷ text) kind n) (sym (eqb-true b 64 k)) (capture_begins text kind n e)
  by false false false false h i j k e = mark_front (b ∷ text) kind n e
