-- Texts of one number: digits and a suffix.
use Rattle.std.proofs.Common.{◌≡◌, ℕ, ◌+◌, ◌*◌, ◌-◌, ◌/◌, ◌%◌, ◌^◌, ◌<◌, ◌≤◌, Bool, true, false, Some}
use Rattle.std.proofs.Common.{None, List, [], ◌∷◌, ◌++◌, length, take, drop, refl, sym, ap, ◌∙◌, arith}
use Rattle.std.specs.Prelude.{◌==◌, ◌&&◌, not}
use Rattle.std.specs.List.{prefix_len, list_all}
use Rattle.std.specs.Fmt.{decimal}
use Rattle.std.proofs.lemmas.Bool.{and_parts, and_from, ne_eqb, false≢true, not_from_false}
use Rattle.std.proofs.lemmas.Bool.Decides.{nat_tests}
use Rattle.std.proofs.lemmas.Fmt.{decimal_by_steps_wide}
use Rattle.std.proofs.lemmas.List.{append_assoc, length-append}
use Rattle.std.proofs.lemmas.List.Folds.{list_all-append}
use Rattle.std.proofs.lemmas.Nat.{div-add-mod'}
use Rattle.std.proofs.Math.Nat.{mod-lt}
use Rattle.std.proofs.Math.Seq.{take-append_seam, drop-append_seam}
use Rattle.lexing.specs.Bytes.{is_digit, is_word_byte, is_suffix_letter}
use Rattle.lexing.specs.Numbers.{is_number_text, number_after}
use Rattle.lexing.proofs.NumberLemmas.{number_text_is_digits}
use Rattle.gim_text.specs.declared.token.NumberKind.{NumberKind}
use Rattle.gim_text.specs.declared.token.Token.{Token}
use Rattle.gim_text.specs.declared.token.Token.TheVariants as tokens
use Rattle.pm_places.specs.Spans.{text_of, place}
use Rattle.gim_lexer.specs.Numbers.{suffix_kind, number_kind}
use Rattle.gim_lexer.specs.Separators.{separator_length}
use Rattle.gim_lexer.specs.Tokens.{number_at, token_of_text}
use Rattle.gim_lexer.proofs.LongestMatch.{number_begins}
use Rattle.lexing.proofs.ByteLemmas.{letter_is_no_digit}
use Rattle.gim_round_trip.proofs.text.Prints.{Prints, Ends, word_end, token_prints}
use Rattle.gim_round_trip.proofs.text.Words.{run_over, begins_none}

-- ---- digits

-- one digit more behind a number that isn't 0
still_number_text : (bs : List ℕ) (d : ℕ) → is_number_text bs ≡ true → 0 < number_after 0 bs → is_digit d ≡ true
    → is_number_text (bs ++ d ∷ []) ≡ true
still_number_text [] d h some digit = absurd (false≢true h)
still_number_text (b ∷ []) d h some digit =
    let other : (b == 48) ≡ false = ne_eqb b 48 (λ e. absurd (omega arith)) in
    and_from (is_digit b && not (b == 48)) (is_digit d && true)
    (and_from (is_digit b) (not (b == 48)) h (not_from_false (b == 48) other))
    (and_from (is_digit d) true digit refl)
still_number_text (b ∷ c ∷ bs) d h some digit =
    let p = and_parts (is_digit b && not (b == 48)) (list_all is_digit (c ∷ bs)) h in
    and_from (is_digit b && not (b == 48)) (list_all is_digit (c ∷ (bs ++ d ∷ []))) p.0
    (list_all-append is_digit (c ∷ bs) (d ∷ [])
    ∙ and_from (list_all is_digit (c ∷ bs)) (is_digit d && true) p.1 (and_from (is_digit d) true digit refl))

-- the number of one digit more
number_with_digit : (m : ℕ) (bs : List ℕ) (d : ℕ) → number_after m (bs ++ d ∷ []) ≡ 10 * number_after m bs + (d - 48)
number_with_digit m [] d = refl
number_with_digit m (b ∷ bs) d = number_with_digit (10 * m + (b - 48)) bs d

-- a digit's byte
last_digit : (n : ℕ) → n < 10 → is_digit (48 + n) ≡ true
last_digit n h = grind (arith, nat_tests)

-- the decimal of a number, up to 64 digits
pub record WritesNumber (n : ℕ) (bs : List ℕ) : Type 0 where
  pub text : is_number_text bs ≡ true
  pub number : number_after 0 bs ≡ n

one_digit : (n : ℕ) → n < 10 → WritesNumber n ((48 + n) ∷ [])
one_digit n h = record { text = last_digit n h; number = omega arith }

digit_more : (n : ℕ) (ds : List ℕ) → 10 ≤ n → WritesNumber (n / 10) ds → WritesNumber n (ds ++ (48 + n % 10) ∷ [])
digit_more n ds long w =
    let small : n % 10 < 10 = mod-lt n (omega arith) in
    let parts = div-add-mod' n 10 in
    record {
      text = still_number_text ds (48 + n % 10) w.text (omega (arith, w.number)) (last_digit (n % 10) small);
      number = number_with_digit 0 ds (48 + n % 10) ∙ omega (arith, w.number);
    }

pub decimal_writes : (n : ℕ) → n < 10 ^ 64 → WritesNumber n (decimal n)
decimal_writes n small = decimal_by_steps_wide WritesNumber one_digit digit_more n small

-- ---- where the digits and the suffix end

digits_end : (suffix rest : List ℕ) → list_all is_suffix_letter suffix ≡ true → Ends word_end rest
    → prefix_len is_digit (suffix ++ rest) ≡ 0
digits_end (b ∷ suffix) rest all ends =
    rw (letter_is_no_digit b (and_parts (is_suffix_letter b) (list_all is_suffix_letter suffix) all).0) refl
digits_end [] [] all ends = refl
digits_end [] (b ∷ rest) all ends = rw (other_is_no_digit b ends) refl where
  other_is_no_digit : (b : ℕ) → is_word_byte b ≡ false → is_digit b ≡ false
  other_is_no_digit b h = grind (arith, nat_tests)

suffix_ends : (rest : List ℕ) → Ends word_end rest → prefix_len is_suffix_letter rest ≡ 0
suffix_ends [] ends = refl
suffix_ends (b ∷ rest) ends = rw (other_is_no_letter b ends) refl where
  other_is_no_letter : (b : ℕ) → is_word_byte b ≡ false → is_suffix_letter b ≡ false
  other_is_no_letter b h = grind (arith, nat_tests)

-- ---- numbers

digit_begins_none : (l : Bool) (b : ℕ) (text : List ℕ) → is_digit b ≡ true → separator_length l (b ∷ text) ≡ None
digit_begins_none l b text h = begins_none l b text (grind (arith, nat_tests)) (grind (arith, nat_tests)) (grind (arith, nat_tests))

-- the digits, and behind them the suffix
number_there : (at n m : ℕ) (text digits suffix rest : List ℕ) → prefix_len is_digit text ≡ n → take n text ≡ digits → drop n text ≡ rest
    → prefix_len is_suffix_letter rest ≡ m → take m rest ≡ suffix
    → number_at at text ≡ tokens.Number (number_kind digits suffix) (place at (n + m))
unfolding number_at
number_there at n m text digits suffix rest run front left letters last = rw (run, left, letters, front, last) refl

begins_with_digit : (ds rest : List ℕ) → is_number_text ds ≡ true → (b : ℕ) × (text : List ℕ) × (is_digit b ≡ true)
    × (ds ++ rest ≡ b ∷ text)
begins_with_digit [] rest h = absurd (false≢true h)
begins_with_digit (b ∷ ds) rest h =
    (b, ds ++ rest, (and_parts (is_digit b) (list_all is_digit ds) (number_text_is_digits (b ∷ ds) h)).0, refl)

-- the text of a number, with the token that it is
pub record NumberText (digits suffix : List ℕ) (kind : NumberKind) : Type 0 where
  pub number : is_number_text digits ≡ true
  pub letters : list_all is_suffix_letter suffix ≡ true
  pub kind_is : suffix_kind suffix ≡ kind

number_apart : (digits suffix rest : List ℕ) → is_number_text digits ≡ true → (l : Bool)
    → separator_length l ((digits ++ suffix) ++ rest) ≡ None
number_apart [] suffix rest h l = absurd (false≢true h)
number_apart (b ∷ ds) suffix rest h l =
    digit_begins_none l b ((ds ++ suffix) ++ rest)
    (and_parts (is_digit b) (list_all is_digit ds) (number_text_is_digits (b ∷ ds) h)).0

kind_of : (digits suffix : List ℕ) (kind : NumberKind) → NumberText digits suffix kind → number_kind digits suffix ≡ kind
unfolding number_kind
kind_of digits suffix kind h = rw h.number h.kind_is

number_cut : (digits suffix rest : List ℕ) (kind : NumberKind) → NumberText digits suffix kind → (at : ℕ) → Ends word_end rest
    → number_at at (digits ++ (suffix ++ rest)) ≡ tokens.Number kind (place at (length (digits ++ suffix)))
number_cut digits suffix rest kind h at ends =
    number_there at (length digits) (length suffix) (digits ++ (suffix ++ rest)) digits suffix (suffix ++ rest)
    (run_over is_digit digits (suffix ++ rest) (number_text_is_digits digits h.number) (digits_end suffix rest h.letters ends))
    (take-append_seam digits (suffix ++ rest)) (drop-append_seam digits (suffix ++ rest))
    (run_over is_suffix_letter suffix rest h.letters (suffix_ends rest ends)) (take-append_seam suffix rest)
    ∙ ap (λ k. tokens.Number k (place at (length digits + length suffix))) (kind_of digits suffix kind h)
    ∙ ap (λ n. tokens.Number kind (place at n)) (sym (length-append digits suffix))

number_stands : (digits suffix : List ℕ) (kind : NumberKind) → NumberText digits suffix kind → (at : ℕ) (rest : List ℕ) → Ends word_end rest
    → token_of_text at ((digits ++ suffix) ++ rest) ≡ Some (tokens.Number kind (place at (length (digits ++ suffix))))
number_stands digits suffix kind h at rest ends =
    let first = begins_with_digit digits (suffix ++ rest) h.number in
    ap (token_of_text at) (append_assoc digits suffix rest)
    ∙ ap (token_of_text at) first.3
    ∙ number_begins at first.0 first.1 first.2
    ∙ ap (λ text. Some (number_at at text)) (sym first.3)
    ∙ ap Some (number_cut digits suffix rest kind h at ends)

-- a number that no byte of a word follows
pub written_number_prints : {A : Type 0} {N : A → List Token → Type 0} {Is : A → Type 0} (source digits suffix : List ℕ)
    (kind : NumberKind) (value : ℕ → A) → NumberText digits suffix kind
    → ((at : ℕ) → N (value at) (tokens.Number kind (place at (length (digits ++ suffix))) ∷ []))
    → ((at : ℕ) → text_of source (place at (length (digits ++ suffix))) ≡ digits ++ suffix → Is (value at))
    → Prints source word_end N Is (digits ++ suffix)
written_number_prints source digits suffix kind value h spells holds =
    token_prints source word_end (digits ++ suffix) (λ at. tokens.Number kind (place at (length (digits ++ suffix)))) value
    (λ l rest ends. number_apart digits suffix rest h.number l) (number_stands digits suffix kind h) (λ at. refl) spells holds
