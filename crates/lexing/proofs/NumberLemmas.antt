-- A number is read from its decimal and from nothing else.
use Rattle.std.proofs.Common.{◌≡◌, ◌≢◌, ℕ, zero, suc, ◌+◌, ◌*◌, ◌-◌, ◌^◌, ◌<◌, ◌≤◌, Bool, true, false, cond, List, [], ◌∷◌, ◌++◌, length, get_or, Some, None, refl, sym, ap, ◌∙◌, arith, rules}
use Rattle.std.specs.Prelude.{min, nat_lt, nat_le, ◌==◌, ◌&&◌, not}
use Rattle.std.specs.List.{list_all}
use Rattle.std.specs.Fmt.{decimal}
use Rattle.std.specs.Int.{IsInRange}
use Rattle.std.proofs.lemmas.Str.Parse.{IsDigitsTest, FoldsDigits, IsNumeralModel, numerals_by_fold}
use Rattle.std.proofs.lemmas.Fmt.{decimal_digit, digits_decimal, digits_value-decimal, decimal-digits_value, decimal_nonempty, first_decimal}
use Rattle.std.proofs.lemmas.Bool.{and_parts, and_from, lt-ltb, ltb-true, leb-true, eqb-false, ne_eqb, not-true, not_from_false, false_from_ne_true, and_left, and_right, false≢true}
use Rattle.std.proofs.lemmas.Bool.Decides.{nat_tests}
use Rattle.lexing.specs.Bytes.{is_digit, is_word_byte, is_suffix_letter}
use Rattle.lexing.specs.Numbers.{is_number_text, leading_digits, number_after, capped, number_below}
use Rattle.lexing.proofs.ByteLemmas.{letter_is_no_digit, digits_are_words}

-- ---- digits and their number

digit_in_range : (b : ℕ) → is_digit b ≡ true → IsInRange 48 57 b
digit_in_range b h = let p = and_parts (nat_le 48 b) (nat_le b 57) h in search (rules, leb-true 48 b p.0, leb-true b 57 p.1)

digit_from_range : (b : ℕ) → IsInRange 48 57 b → is_digit b ≡ true
digit_from_range b h = grind (arith, nat_tests)

digits_test : IsDigitsTest (λ ds. list_all is_digit ds ≡ true)
digits_test = record {
  empty = refl;
  parts = λ c cs h. let p = and_parts (is_digit c) (list_all is_digit cs) h in (digit_in_range c p.0, p.1);
  more = λ c cs h t. and_from (is_digit c) (list_all is_digit cs) (digit_from_range c h) t;
}

digits_fold : FoldsDigits number_after
digits_fold = record {
  empty = λ n. refl;
  more = λ n c cs h. let e : 10 * n + (c - 48) ≡ n * 10 + (c - 48) = omega arith in ap (λ m. number_after m cs) e;
}

own : IsNumeralModel (λ ds. list_all is_digit ds ≡ true) (number_after 0)
own = numerals_by_fold (λ ds. list_all is_digit ds ≡ true) digits_test number_after digits_fold

-- counting up to the limit gives the number, or the limit
capped_is : (limit n : ℕ) (ds : List ℕ) → capped limit (min n limit) ds ≡ min (number_after n ds) limit
capped_is limit n [] = refl
capped_is limit n (d ∷ ds) =
    let e : min (10 * min n limit + (d - 48)) limit ≡ min (10 * n + (d - 48)) limit = omega arith in
    ap (λ m. capped limit m ds) e ∙ capped_is limit (10 * n + (d - 48)) ds

capped_from_zero : (limit : ℕ) (ds : List ℕ) → capped limit 0 ds ≡ min (number_after 0 ds) limit
capped_from_zero limit ds = let e : 0 ≡ min 0 limit = omega arith in ap (λ m. capped limit m ds) e ∙ capped_is limit 0 ds

-- ---- texts of numbers

pub number_text_is_digits : (bs : List ℕ) → is_number_text bs ≡ true → list_all is_digit bs ≡ true
number_text_is_digits [] h = absurd (false≢true h)
number_text_is_digits (b ∷ []) h = and_from (is_digit b) true h refl
number_text_is_digits (b ∷ c ∷ bs) h =
    let p = and_parts (is_digit b && not (b == 48)) (list_all is_digit (c ∷ bs)) h in
    and_from (is_digit b) (list_all is_digit (c ∷ bs)) (and_parts (is_digit b) (not (b == 48)) p.0).0 p.1

number_text_first : (bs : List ℕ) → is_number_text bs ≡ true → (0 < length bs) × (get_or bs 0 0 ≡ 48 → length bs ≡ 1)
number_text_first [] h = absurd (false≢true h)
number_text_first (b ∷ []) h = (omega arith, λ e. refl)
number_text_first (b ∷ c ∷ bs) h =
    let p = and_parts (is_digit b && not (b == 48)) (list_all is_digit (c ∷ bs)) h in
    let other : (b == 48) ≡ false = not-true (b == 48) (and_parts (is_digit b) (not (b == 48)) p.0).1 in
    (omega arith, λ e. absurd (eqb-false b 48 other e))

number_text_from : (bs : List ℕ) → list_all is_digit bs ≡ true → 0 < length bs → (get_or bs 0 0 ≡ 48 → length bs ≡ 1) → is_number_text bs ≡ true
number_text_from [] h long first = absurd (omega arith)
number_text_from (b ∷ []) h long first = (and_parts (is_digit b) true h).0
number_text_from (b ∷ c ∷ bs) h long first =
    let p = and_parts (is_digit b) (list_all is_digit (c ∷ bs)) h in
    let other : b ≢ 48 = λ e. let two : length (b ∷ c ∷ bs) ≡ 1 = first e in absurd (omega arith) in
    and_from (is_digit b && not (b == 48)) (list_all is_digit (c ∷ bs)) (and_from (is_digit b) (not (b == 48)) p.0 (not_from_false (b == 48) (ne_eqb b 48 other))) p.1

pub decimal_is_number_text : (n : ℕ) → n < 2 ^ 64 → is_number_text (decimal n) ≡ true
decimal_is_number_text n lt = number_text_from (decimal n) (digits_decimal own n lt) (decimal_nonempty n lt) (λ e. one n lt e) where
  one : (n : ℕ) → n < 2 ^ 64 → get_or (decimal n) 0 0 ≡ 48 → length (decimal n) ≡ 1
  one zero lt e = ap length (decimal_digit 0 (omega arith))
  one (suc n) lt e = absurd (let above : 48 < get_or (decimal (suc n)) 0 0 = first_decimal (suc n) (omega arith) lt in omega arith)

-- ---- a number below a limit

pub number_below-decimal : (limit n : ℕ) → limit ≤ 2 ^ 64 → n < limit → number_below limit (decimal n) ≡ Some n
unfolding number_below
number_below-decimal limit n low lt =
    let small : n < 2 ^ 64 = omega arith in
    let value : capped limit 0 (decimal n) ≡ n = capped_from_zero limit (decimal n) ∙ ap (λ m. min m limit) (digits_value-decimal own n small) ∙ omega arith in
    rw (decimal_is_number_text n small, value, lt-ltb n limit lt) refl

both_tests : (limit n m : ℕ) (b c : Bool) → cond b (cond c (Some m) None) None ≡ Some n → (b ≡ true) × (c ≡ true) × (m ≡ n)
both_tests limit n m true true e = (refl, refl, cc)
both_tests limit n m true false e = absurd cc
both_tests limit n m false c e = absurd cc

pub number_below_is : (limit n : ℕ) (bs : List ℕ) → limit ≤ 2 ^ 64 → number_below limit bs ≡ Some n → (n < limit) × (bs ≡ decimal n)
unfolding number_below
number_below_is limit n bs low e =
    let t = both_tests limit n (capped limit 0 bs) (is_number_text bs) (nat_lt (capped limit 0 bs) limit) e in
    let below : capped limit 0 bs < limit = ltb-true (capped limit 0 bs) limit t.1 in
    let counted = capped_from_zero limit bs in
    let value : number_after 0 bs ≡ n = omega (arith, t.2) in
    let first = number_text_first bs t.0 in
    let text : decimal (number_after 0 bs) ≡ bs = decimal-digits_value own bs (number_text_is_digits bs t.0) first.0 first.1 (omega arith) in
    (omega (arith, t.2), sym text ∙ ap decimal value)

pub decimal_digits : (n : ℕ) → n < 2 ^ 64 → list_all is_digit (decimal n) ≡ true
decimal_digits n lt = digits_decimal own n lt

pub number_below_other : (limit : ℕ) (bs : List ℕ) → list_all is_digit bs ≡ false → number_below limit bs ≡ None
unfolding number_below
number_below_other limit bs h =
    let no : is_number_text bs ≡ false = false_from_ne_true (is_number_text bs) (λ t. false≢true (sym h ∙ number_text_is_digits bs t)) in
    rw no refl

-- ---- digits among other bytes

pub other_among : (front : List ℕ) (b : ℕ) (ds : List ℕ) → is_digit b ≡ false → list_all is_digit (front ++ b ∷ ds) ≡ false
other_among [] b ds h = and_left (is_digit b) (list_all is_digit ds) h
other_among (c ∷ front) b ds h = and_right (is_digit c) (list_all is_digit (front ++ b ∷ ds)) (other_among front b ds h)

pub underscore_is_no_digit : (b : ℕ) → is_digit b ≡ true → (b == 95) ≡ false
underscore_is_no_digit b h = ne_eqb b 95 (λ e. false≢true (ap is_digit (sym e) ∙ h))

-- the digits before a suffix are all at the front
pub front_digits : (digits suffix : List ℕ) → list_all is_digit digits ≡ true → list_all is_suffix_letter suffix ≡ true
    → leading_digits (digits ++ suffix) ≡ digits
front_digits [] [] ds ls = refl
front_digits [] (b ∷ suffix) ds ls = rw (letter_is_no_digit b (and_parts (is_suffix_letter b) (list_all is_suffix_letter suffix) ls).0) refl
front_digits (d ∷ digits) suffix ds ls =
    let parts = and_parts (is_digit d) (list_all is_digit digits) ds in
    rw parts.0 (ap (λ bs. d ∷ bs) (front_digits digits suffix parts.1 ls))

pub number_is_word : (bytes : List ℕ) → is_number_text bytes ≡ true → list_all is_word_byte bytes ≡ true
number_is_word bytes h = digits_are_words bytes (number_text_is_digits bytes h)
