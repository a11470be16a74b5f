-- Which kinds of bytes lie in others, and which have none in common.
use Rattle.std.proofs.Common.{◌≡◌, ℕ, true, false, List, [], ◌∷◌, refl, arith}
use Rattle.std.specs.List.{list_all}
use Rattle.std.proofs.lemmas.Bool.{and_parts, and_from, or_right}
use Rattle.std.proofs.lemmas.Bool.Decides.{nat_tests}
use Rattle.lexing.specs.Bytes.{is_digit, is_letter, is_word_byte, is_suffix_letter}

pub letter_is_word : (b : ℕ) → is_letter b ≡ true → is_word_byte b ≡ true
letter_is_word b h = rw h refl

pub digit_is_no_letter : (b : ℕ) → is_digit b ≡ true → is_letter b ≡ false
digit_is_no_letter b h = grind (arith, nat_tests)

pub letter_is_no_digit : (b : ℕ) → is_suffix_letter b ≡ true → is_digit b ≡ false
letter_is_no_digit b h = grind (arith, nat_tests)

pub digits_are_words : (digits : List ℕ) → list_all is_digit digits ≡ true → list_all is_word_byte digits ≡ true
digits_are_words [] h = refl
digits_are_words (d ∷ digits) h =
    let parts = and_parts (is_digit d) (list_all is_digit digits) h in
    and_from (is_word_byte d) (list_all is_word_byte digits) (or_right (is_letter d) (is_digit d) parts.0) (digits_are_words digits parts.1)
