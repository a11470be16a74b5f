-- The token that begins a text is the longest front that spells one.
use Rattle.std.proofs.Common.{◌≡◌, ℕ, zero, suc, ◌+◌, ◌<◌, ◌≤◌, Bool, true, false, cond, List, [], ◌∷◌, ◌++◌, length, take, drop, codes, Some, None, refl, sym, ap, ◌∙◌, subst, arith, inl, inr}
use Rattle.std.specs.Prelude.{option_map, ◌==◌, not, ◌&&◌, ◌||◌}
use Rattle.std.specs.List.{prefix_len, list_all, list_any}
use Rattle.std.specs.Str.{bytes_eq}
use Rattle.std.specs.Cmp.Lexicographic.{bytes_decides}
use Rattle.std.proofs.lemmas.Bool.{and_parts, and_from, false≢true, ne_eqb}
use Rattle.std.proofs.lemmas.Bool.Decides.{nat_tests}
use Rattle.lexing.specs.Bytes.{is_digit, is_letter, is_word_byte, is_suffix_letter}
use Rattle.lexing.specs.Words.{is_word_text}
use Rattle.lexing.specs.Separators.{opens}
use Rattle.lexing.specs.Quoted.{IsQuoted, quoted_length}
use Rattle.lexing.proofs.ByteLemmas.{letter_is_word, letter_is_no_digit, digit_is_no_letter}
use Rattle.lexing.proofs.QuotedLemmas.{quoted_found}
use Rattle.lexing.proofs.Runs.{run_begins, no_run, within_run}
use Rattle.pd_lexer.specs.declared.token.TokenKind.{TokenKind}
use Rattle.pd_lexer.specs.declared.token.TokenKind.TheVariants.{Ident, Number, Capture, ValueCapture, Text, Punct}
use Rattle.pd_lexer.specs.Longest.{Reaches, IsLongestMatch}
use Rattle.pd_lexer.specs.Marks.{is_mark, marks, mark_length}
use Rattle.pd_lexer.specs.Numbers.{is_hex_digit, AreDigits, decimal, hexadecimal, IsNumber, hex_length, digits_length, number_length}
use Rattle.pd_lexer.specs.Spelled.{IsName, IsCapture}
use Rattle.pd_lexer.specs.Tokens.{name_length, capture_of, capture_front, token_front}
use Rattle.pd_lexer.proofs.Fronts.{of_kind, positive, opens_two}

-- ---- words

ident_begins : (b : ℕ) (text : List ℕ) → is_letter b ≡ true → token_front (b ∷ text) ≡ Some (Ident, prefix_len is_word_byte (b ∷ text))
unfolding token_front
ident_begins b text h = rw h refl

-- a front that is a word, and the run that it is within
record WordFront (text : List ℕ) (m : ℕ) : Type 0 where
  first : ℕ
  rest : List ℕ
  begins : text ≡ first ∷ rest
  letter : is_letter first ≡ true
  within : m ≤ prefix_len is_word_byte text

word_at_front : (text : List ℕ) (m : ℕ) → m ≤ length text → is_word_text (take m text) ≡ true → WordFront text m
word_at_front text zero le h = absurd (false≢true h)
word_at_front [] (suc m) le h = absurd (omega arith)
word_at_front (b ∷ text) (suc m) le h =
    let parts = and_parts (is_letter b) (list_all is_word_byte (take m text)) h in
    let all : list_all is_word_byte (take (suc m) (b ∷ text))
    ≡ true = and_from (is_word_byte b) (list_all is_word_byte (take m text)) (letter_is_word b parts.0) parts.1 in
    record { first = b; rest = text; begins = refl; letter = parts.0; within = within_run is_word_byte (b ∷ text) (suc m) le all }

ident_reaches : (text : List ℕ) (m : ℕ) → m ≤ length text → is_word_text (take m text) ≡ true → Reaches text m
ident_reaches text m le h =
    let w = word_at_front text m le h in
    record {
      kind = Ident;
      len = prefix_len is_word_byte text;
      begins = subst (λ bs. token_front bs ≡ Some (Ident, prefix_len is_word_byte bs)) (sym w.begins) (ident_begins w.first w.rest w.letter);
      reaches = w.within;
    }

-- ---- numbers

-- bytes of one kind and then letters
run_length : (ℕ → Bool) → List ℕ → ℕ
run_length p text = prefix_len p text + prefix_len is_suffix_letter (drop (prefix_len p text) text)

-- no letter of suffixes is of the kind
IsApart : (ℕ → Bool) → Type 0
IsApart p = (b : ℕ) → is_suffix_letter b ≡ true → p b ≡ false

letters_within : (p : ℕ → Bool) → IsApart p → (text : List ℕ) (m : ℕ) → m ≤ length text → list_all is_suffix_letter (take m text) ≡ true
    → m ≤ run_length p text
unfolding run_length IsApart
letters_within p apart text zero le h = omega arith
letters_within p apart [] (suc m) le h = absurd (omega arith)
letters_within p apart (b ∷ text) (suc m) le h =
    let first = (and_parts (is_suffix_letter b) (list_all is_suffix_letter (take m text)) h).0 in
    let none : prefix_len p (b ∷ text) ≡ 0 = no_run p b text (apart b first) in
    rw none (omega (arith, within_run is_suffix_letter (b ∷ text) (suc m) le h))

run_within : (p : ℕ → Bool) → IsApart p → (text digits letters : List ℕ) (m : ℕ) → m ≤ length text → take m text ≡ digits ++ letters
    → list_all p digits ≡ true → list_all is_suffix_letter letters ≡ true → m ≤ run_length p text
unfolding run_length
run_within p apart text [] letters m le e ds ls = letters_within p apart text m le (ap (list_all is_suffix_letter) e ∙ ls)
run_within p apart text (d ∷ digits) letters zero le e ds ls = omega arith
run_within p apart [] (d ∷ digits) letters (suc m) le e ds ls = absurd (omega arith)
run_within p apart (b ∷ text) (d ∷ digits) letters (suc m) le e ds ls =
    let same : b ≡ d = cc in
    let rest : take m text ≡ digits ++ letters = cc in
    let parts = and_parts (p d) (list_all p digits) ds in
    let more : prefix_len p (b ∷ text) ≡ suc (prefix_len p text) = run_begins p b text (ap p same ∙ parts.0) in
    let later = run_within p apart text digits letters m (omega arith) rest parts.1 ls in
    rw more (omega (arith, later))

hex_apart : IsApart is_hex_digit
unfolding IsApart
hex_apart b h = grind (arith, nat_tests)

digits_apart : IsApart is_digit
unfolding IsApart
digits_apart b h = letter_is_no_digit b h

number_begins : (b : ℕ) (text : List ℕ) → is_digit b ≡ true → token_front (b ∷ text) ≡ Some (Number, number_length (b ∷ text))
unfolding token_front
number_begins b text h = rw (digit_is_no_letter b h, h) refl

-- a number without `0x`
plain_number : (text : List ℕ) → hex_length text ≡ 0 → number_length text ≡ run_length is_digit text
unfolding number_length digits_length run_length
plain_number text h = rw h refl

-- a number behind `0x`
hex_number : (text : List ℕ) (k : ℕ) → prefix_len is_hex_digit text ≡ suc k → number_length (48 ∷ 120 ∷ text) ≡ 2 + run_length is_hex_digit text
unfolding number_length digits_length hex_length run_length
hex_number text k h =
    let bytes : 2 + suc k ≡ suc (suc (suc k)) = omega arith in
    rw (h, positive k, bytes) (omega arith)

-- where there is a hexadecimal number
hex_begins : (text : List ℕ) (k : ℕ) → hex_length text ≡ suc k → text ≡ 48 ∷ 120 ∷ drop 2 text × (prefix_len is_hex_digit (drop 2 text) ≡ suc k)
unfolding hex_length
hex_begins text k h = by (opens text (codes "0x")) refl h where
  by : (o : Bool) → opens text (codes "0x") ≡ o → cond o (prefix_len is_hex_digit (drop 2 text)) 0 ≡ suc k
      → (text ≡ 48 ∷ 120 ∷ drop 2 text) × (prefix_len is_hex_digit (drop 2 text) ≡ suc k)
  by false o e = absurd cc
  by true o e = (opens_two 48 120 text o, e)

zero_alone : (text : List ℕ) → run_length is_digit (48 ∷ 120 ∷ text) ≡ 1
unfolding run_length
zero_alone text = refl

-- a decimal front is within the number, also where that is hexadecimal
decimal_within : (text digits letters : List ℕ) (m : ℕ) → m ≤ length text → take m text ≡ digits ++ letters → list_all is_digit digits ≡ true
    → list_all is_suffix_letter letters ≡ true → m ≤ number_length text
decimal_within text digits letters m le e ds ls = by (hex_length text) refl where
  plain : m ≤ run_length is_digit text
  plain = run_within is_digit digits_apart text digits letters m le e ds ls

  by : (k : ℕ) → hex_length text ≡ k → m ≤ number_length text
  by zero h = omega (arith, plain, plain_number text h)
  by (suc k) h =
      let hex = hex_begins text k h in
      let long : number_length text ≡ 2 + run_length is_hex_digit (drop 2 text) = ap number_length hex.0 ∙ hex_number (drop 2 text) k hex.1 in
      let one : run_length is_digit text ≡ 1 = ap (run_length is_digit) hex.0 ∙ zero_alone (drop 2 text) in
      omega (arith, plain, one, long)

hex_within : (text : List ℕ) (d : ℕ) (digits letters : List ℕ) (m : ℕ) → m ≤ length text → take m text ≡ 48 ∷ 120 ∷ d ∷ (digits ++ letters)
    → list_all is_hex_digit (d ∷ digits) ≡ true → list_all is_suffix_letter letters ≡ true → m ≤ number_length text
hex_within text d digits letters zero le e ds ls = omega arith
hex_within [] d digits letters (suc m) le e ds ls = absurd (omega arith)
hex_within (a ∷ text) d digits letters (suc zero) le e ds ls = absurd cc
hex_within (a ∷ []) d digits letters (suc (suc m)) le e ds ls = absurd (omega arith)
hex_within (a ∷ b ∷ text) d digits letters (suc (suc m)) le e ds ls =
    let first : a ≡ 48 = cc in
    let second : b ≡ 120 = cc in
    let rest : take m text ≡ (d ∷ digits) ++ letters = cc in
    let within = run_within is_hex_digit hex_apart text (d ∷ digits) letters m (omega arith) rest ds ls in
    let parts = and_parts (is_hex_digit d) (list_all is_hex_digit digits) ds in
    let some = hex_run text m d (digits ++ letters) rest parts.0 in
    let long : number_length (a ∷ b ∷ text) ≡ 2 + run_length is_hex_digit text =
    ap (λ x. number_length (x ∷ b ∷ text)) first ∙ ap (λ x. number_length (48 ∷ x ∷ text)) second ∙ hex_number text some.0 some.1 in
    omega (arith, within, long) where
      hex_run : (text : List ℕ) (m d : ℕ) (more : List ℕ) → take m text ≡ d ∷ more → is_hex_digit d ≡ true
          → (k : ℕ) × (prefix_len is_hex_digit text ≡ suc k)
      hex_run text zero d more e h = absurd cc
      hex_run [] (suc m) d more e h = absurd cc
      hex_run (c ∷ text) (suc m) d more e h =
          let same : c ≡ d = cc in
          (prefix_len is_hex_digit text, run_begins is_hex_digit c text (ap is_hex_digit same ∙ h))

digits_within : (text letters : List ℕ) (m : ℕ) (digits : List ℕ) → m ≤ length text → take m text ≡ digits ++ letters → AreDigits digits
    → list_all is_suffix_letter letters ≡ true → m ≤ number_length text
digits_within text letters m _ le e (decimal d ds h) ls = decimal_within text (d ∷ ds) letters m le e h ls
digits_within text letters m _ le e (hexadecimal d ds h) ls = hex_within text d ds letters m le e h ls

-- digits begin with a decimal digit
record DigitFirst (bytes : List ℕ) : Type 0 where
  first : ℕ
  rest : List ℕ
  begins : bytes ≡ first ∷ rest
  digit : is_digit first ≡ true

digit_first : (digits letters : List ℕ) → AreDigits digits → DigitFirst (digits ++ letters)
digit_first _ letters (decimal d ds h) = record {
  first = d;
  rest = ds ++ letters;
  begins = refl;
  digit = (and_parts (is_digit d)
      (list_all is_digit ds) h).0;
}
digit_first _ letters (hexadecimal d ds h) = record { first = 48; rest = 120 ∷ d ∷ (ds ++ letters); begins = refl; digit = refl }

number_reaches : (text : List ℕ) (m : ℕ) → m ≤ length text → IsNumber (take m text) → Reaches text m
number_reaches text m le number =
    let f = digit_first number.digits number.letters number.are_digits in
    by text m f.first f.rest le (number.parts
    ∙ f.begins) f.digit (digits_within text number.letters m number.digits le number.parts number.are_digits number.are_letters) where
      by : (text : List ℕ) (m d : ℕ) (rest : List ℕ) → m ≤ length text → take m text ≡ d ∷ rest → is_digit d ≡ true → m ≤ number_length text
          → Reaches text m
      by text zero d rest le e h within = absurd cc
      by [] (suc m) d rest le e h within = absurd (omega arith)
      by (b ∷ text) (suc m) d rest le e h within =
          let same : b ≡ d = cc in
          record { kind = Number; len = number_length (b ∷ text); begins = number_begins b text (ap is_digit same ∙ h); reaches = within }

-- ---- captures

-- a front that is a name is within the name, which begins with no `@`
record NameReach (text : List ℕ) (m : ℕ) : Type 0 where
  some : 0 < m
  within : m ≤ name_length text
  no_at : opens text (codes "@") ≡ false

no_at_first : (p : ℕ → Bool) (c : ℕ) (text : List ℕ) → p 64 ≡ false → p c ≡ true → opens (c ∷ text) (codes "@") ≡ false
no_at_first p c text none h = let other : (64 == c) ≡ false = ne_eqb 64 c (λ e. false≢true (sym none ∙ ap p e ∙ h)) in rw other refl

letter_is_other : (b : ℕ) → is_letter b ≡ true → is_digit b ≡ false
letter_is_other b h = by (is_digit b) refl where
  by : (d : Bool) → is_digit b ≡ d → d ≡ false
  by false e = refl
  by true e = absurd (false≢true (sym (digit_is_no_letter b e) ∙ h))

word_name : (first : ℕ) (rest : List ℕ) → is_letter first ≡ true → name_length (first ∷ rest) ≡ prefix_len is_word_byte (first ∷ rest)
unfolding name_length
word_name first rest h = rw (letter_is_other first h) refl

digit_name : (first : ℕ) (rest : List ℕ) → is_digit first ≡ true → name_length (first ∷ rest) ≡ prefix_len is_digit (first ∷ rest)
unfolding name_length
digit_name first rest h = rw h refl

word_reach : (text : List ℕ) (m : ℕ) → m ≤ length text → is_word_text (take m text) ≡ true → NameReach text m
word_reach text zero le h = absurd (false≢true h)
word_reach [] (suc m) le h = absurd (omega arith)
word_reach (b ∷ text) (suc m) le h =
    let w = word_at_front (b ∷ text) (suc m) le h in
    let parts = and_parts (is_letter b) (list_all is_word_byte (take m text)) h in
    record { some = omega arith; within = omega (arith, w.within, word_name b text parts.0); no_at = no_at_first is_letter b text refl parts.0 }

digit_reach : (text : List ℕ) (m : ℕ) → m ≤ length text → 0 < length (take m text) → list_all is_digit (take m text) ≡ true → NameReach text m
digit_reach text zero le some h = absurd (omega arith)
digit_reach [] (suc m) le some h = absurd (omega arith)
digit_reach (b ∷ text) (suc m) le some h =
    let parts = and_parts (is_digit b) (list_all is_digit (take m text)) h in
    let within : suc m ≤ prefix_len is_digit (b ∷ text) = within_run is_digit (b ∷ text) (suc m) le h in
    record { some = omega arith; within = omega (arith, within, digit_name b text parts.0); no_at = no_at_first is_digit b text refl parts.0 }

name_reach : (text : List ℕ) (m : ℕ) → m ≤ length text → IsName (take m text) → NameReach text m
name_reach text m le (inl digits) = digit_reach text m le digits.0 digits.1
name_reach text m le (inr word) = word_reach text m le word

capture_is : (kind : TokenKind) (ats n : ℕ) → 0 < n → capture_of kind ats n ≡ Some (kind, ats + n)
capture_is kind ats zero h = absurd (omega arith)
capture_is kind ats (suc n) h = rw (positive n) refl

one_begins : (text : List ℕ) → opens text (codes "@") ≡ false → token_front (64 ∷ text) ≡ capture_of Capture 1 (name_length text)
unfolding token_front capture_front
one_begins text h = rw h refl

two_begin : (text : List ℕ) → token_front (64 ∷ 64 ∷ text) ≡ capture_of ValueCapture 2 (name_length text)
unfolding token_front capture_front
two_begin text = refl

capture_reaches : (text : List ℕ) (m : ℕ) → m ≤ length text → IsCapture (codes "@") (take m text) → Reaches text m
capture_reaches text zero le capture = absurd (let parts : [] ≡ 64 ∷ capture.name = capture.parts in cc)
capture_reaches [] (suc m) le capture = absurd (omega arith)
capture_reaches (b ∷ text) (suc m) le capture =
    let parts : b ∷ take m text ≡ 64 ∷ capture.name = capture.parts in
    let same : b ≡ 64 = cc in
    let name : capture.name ≡ take m text = cc in
    let r = name_reach text m (omega arith) (subst IsName name capture.named) in
    let begins = one_begins text r.no_at ∙ capture_is Capture 1 (name_length text) (omega (arith, r.some, r.within)) in
    subst (λ a. Reaches (a ∷ text) (suc m)) (sym same) (record {
      kind = Capture;
      len = 1 + name_length text;
      begins = begins;
      reaches = omega
          (arith, r.within);
    })

value_capture_reaches : (text : List ℕ) (m : ℕ) → m ≤ length text → IsCapture (codes "@@") (take m text) → Reaches text m
value_capture_reaches text zero le capture = absurd (let parts : [] ≡ 64 ∷ 64 ∷ capture.name = capture.parts in cc)
value_capture_reaches [] (suc m) le capture = absurd (omega arith)
value_capture_reaches (b ∷ text) (suc zero) le capture = absurd (let parts : b ∷ [] ≡ 64 ∷ 64 ∷ capture.name = capture.parts in cc)
value_capture_reaches (b ∷ []) (suc (suc m)) le capture = absurd (omega arith)
value_capture_reaches (b ∷ c ∷ text) (suc (suc m)) le capture =
    let parts : b ∷ c ∷ take m text ≡ 64 ∷ 64 ∷ capture.name = capture.parts in
    let first : b ≡ 64 = cc in
    let second : c ≡ 64 = cc in
    let name : capture.name ≡ take m text = cc in
    let r = name_reach text m (omega arith) (subst IsName name capture.named) in
    let begins = two_begin text ∙ capture_is ValueCapture 2 (name_length text) (omega (arith, r.some, r.within)) in
    subst (λ a. Reaches (a ∷ c ∷ text) (suc (suc m))) (sym first) (subst (λ a. Reaches (64 ∷ a ∷ text) (suc (suc m))) (sym second)
    (record { kind = ValueCapture; len = 2 + name_length text; begins = begins; reaches = omega (arith, r.within) }))

-- ---- texts

text_begins : (n : ℕ) (rest : List ℕ) → quoted_length rest ≡ Some n → token_front (34 ∷ rest) ≡ Some (Text, n)
unfolding token_front
text_begins n rest h = rw h refl

text_reaches : (text : List ℕ) (m : ℕ) → m ≤ length text → IsQuoted (take m text) → Reaches text m
text_reaches text zero le quoted = absurd (let parts : [] ≡ 34 ∷ (quoted.inner ++ 34 ∷ []) = quoted.parts in cc)
text_reaches [] (suc m) le quoted = absurd (omega arith)
text_reaches (b ∷ rest) (suc m) le quoted =
    let parts : b ∷ take m rest ≡ 34 ∷ (quoted.inner ++ 34 ∷ []) = quoted.parts in
    let same : b ≡ 34 = cc in
    let found = quoted_found rest m (omega arith) (subst (λ a. IsQuoted (a ∷ take m rest)) same quoted) in
    subst (λ a. Reaches (a ∷ rest) (suc m)) (sym same) (record {
      kind = Text;
      len = suc m;
      begins = text_begins
          (suc m) rest found;
      reaches = omega arith;
    })

-- ---- marks

-- a byte that begins no word, number, text or capture
is_odd : ℕ → Bool
is_odd b = not (is_letter b) && not (is_digit b) && not (b == 34) && not (b == 64)

-- one such byte, or two bytes of which it is the first
is_one_or_two : List ℕ → Bool
is_one_or_two (a ∷ []) = is_odd a
is_one_or_two (a ∷ b ∷ []) = is_odd a
is_one_or_two bytes = false

-- what each word of a list has, a text has that is one of them
among_passes : (p : List ℕ → Bool) (words : List (List ℕ)) (bytes : List ℕ) → list_any (λ word. bytes_eq word bytes) words ≡ true
    → list_all p words ≡ true → p bytes ≡ true
among_passes p [] bytes h all = absurd (false≢true h)
among_passes p (word ∷ words) bytes h all =
    let parts = and_parts (p word) (list_all p words) all in
    by (bytes_eq word bytes) refl h parts.0 (λ h. among_passes p words bytes h parts.1) where
      by : (t : Bool) → bytes_eq word bytes ≡ t → (t || list_any (λ word. bytes_eq word bytes) words) ≡ true → p word ≡ true
          → (list_any (λ word. bytes_eq word bytes) words ≡ true → p bytes ≡ true) → p bytes ≡ true
      by true same h first later = ap p (sym ((bytes_decides word bytes).0 same)) ∙ first
      by false same h first later = later h

mark_is : (bytes : List ℕ) → is_mark bytes ≡ true → is_one_or_two bytes ≡ true
unfolding is_mark is_one_or_two is_odd
mark_is bytes h = among_passes is_one_or_two marks bytes h refl

odd_begins : (a : ℕ) (text : List ℕ) → is_odd a ≡ true → token_front (a ∷ text) ≡ option_map (of_kind Punct) (mark_length (a ∷ text))
unfolding token_front is_odd
odd_begins a text odd = by (is_letter a) (is_digit a) (a == 34) (a == 64) odd where
  by : (l d q t : Bool) → (not l && not d && not q && not t) ≡ true
      → cond l (Some (Ident, prefix_len is_word_byte (a ∷ text))) (cond d (Some (Number, number_length (a ∷ text))) (cond q (option_map
      (of_kind Text) (quoted_length text)) (cond t (capture_front text) (option_map (of_kind Punct) (mark_length (a ∷ text))))))
      ≡ option_map (of_kind Punct) (mark_length (a ∷ text))
  by true d q t odd = absurd (false≢true odd)
  by false true q t odd = absurd (false≢true odd)
  by false false true t odd = absurd (false≢true odd)
  by false false false true odd = absurd (false≢true odd)
  by false false false false odd = refl

mark_from : (a : ℕ) (text : List ℕ) (m n : ℕ) → is_odd a ≡ true → mark_length (a ∷ text) ≡ Some n → m ≤ n → Reaches (a ∷ text) m
mark_from a text m n odd e le = record { kind = Punct; len = n; begins = odd_begins a text odd ∙ ap (option_map (of_kind Punct)) e; reaches = le }

two_found : (a b : ℕ) (text : List ℕ) → is_mark (a ∷ b ∷ []) ≡ true → mark_length (a ∷ b ∷ text) ≡ Some 2
unfolding mark_length
two_found a b text h = rw h refl

one_found : (a : ℕ) (text : List ℕ) → is_mark (a ∷ []) ≡ true → (n : ℕ) × (mark_length (a ∷ text) ≡ Some n) × (1 ≤ n)
unfolding mark_length
one_found a text h = by (is_mark (take 2 (a ∷ text))) (is_mark (take 1 (a ∷ text))) h where
  by : (two one : Bool) → one ≡ true → (n : ℕ) × (cond two (Some (length (take 2 (a ∷ text)))) (cond one (Some 1) None) ≡ Some n) × (1 ≤ n)
  by true one e = (length (take 2 (a ∷ text)), refl, omega arith)
  by false true e = (1, refl, omega arith)
  by false false e = absurd (false≢true e)

mark_reaches : (text : List ℕ) (m : ℕ) → m ≤ length text → is_mark (take m text) ≡ true → Reaches text m
unfolding is_one_or_two
mark_reaches text m le h = by text m le h (mark_is (take m text) h) where
  by : (text : List ℕ) (m : ℕ) → m ≤ length text → is_mark (take m text) ≡ true → is_one_or_two (take m text) ≡ true → Reaches text m
  by text zero le h odd = absurd (false≢true odd)
  by [] (suc m) le h odd = absurd (omega arith)
  by (a ∷ text) (suc zero) le h odd = let found = one_found a text h in mark_from a text 1 found.0 odd found.1 found.2
  by (a ∷ []) (suc (suc m)) le h odd = absurd (omega arith)
  by (a ∷ b ∷ text) (suc (suc zero)) le h odd = mark_from a (b ∷ text) 2 2 odd (two_found a b text h) (omega arith)
  by (a ∷ b ∷ []) (suc (suc (suc m))) le h odd = absurd (omega arith)
  by (a ∷ b ∷ c ∷ text) (suc (suc (suc m))) le h odd = absurd (false≢true odd)

-- ---- all of them

pub longest_match : (text : List ℕ) → IsLongestMatch text
longest_match text m Ident le s = ident_reaches text m le s
longest_match text m Number le s = number_reaches text m le s
longest_match text m Capture le s = capture_reaches text m le s
longest_match text m ValueCapture le s = value_capture_reaches text m le s
longest_match text m Text le s = text_reaches text m le s
longest_match text m Punct le s = mark_reaches text m le s
