-- Numbers: decimal digits, or `0x` and hexadecimal digits, and any letters `u`, `U`, `l` and `L` behind them.
use Rattle.std.specs.Prelude.{ℕ, ◌+◌, ◌*◌, ◌-◌, ◌==◌, nat_le, IsTrue, Bool, ◌&&◌, ◌||◌, ◌≡◌, List, [], ◌∷◌, ◌++◌, take, drop, codes, if◌then◌else◌}
use Rattle.std.specs.List.{prefix_len, list_all}
use Rattle.lexing.specs.Bytes.{is_digit, is_suffix_letter}
use Rattle.lexing.specs.Separators.{opens}

-- a digit, or a letter from `a` to `f` or from `A` to `F`
abbrev pub is_hex_digit : ℕ → Bool
is_hex_digit b = is_digit b || ((nat_le 65 b && nat_le b 70) || (nat_le 97 b && nat_le b 102))

-- decimal digits, or `0x` and hexadecimal ones, one at least
pub data AreDigits : List ℕ → Type 0 where
  decimal : (d : ℕ) (ds : List ℕ) → IsTrue (list_all is_digit (d ∷ ds)) → AreDigits (d ∷ ds)
  hexadecimal : (d : ℕ) (ds : List ℕ) → IsTrue (list_all is_hex_digit (d ∷ ds)) → AreDigits (48 ∷ 120 ∷ d ∷ ds)

-- digits and then letters
pub record IsNumber (text : List ℕ) : Type 0 where
  pub digits : List ℕ
  pub letters : List ℕ
  pub parts : text ≡ digits ++ letters
  pub are_digits : AreDigits digits
  pub are_letters : IsTrue (list_all is_suffix_letter letters)

-- how many hexadecimal digits there are behind a `0x` at the front
unfoldable pub hex_length : List ℕ → ℕ
hex_length text = if opens text (codes "0x") then prefix_len is_hex_digit (drop 2 text) else 0

-- how many bytes the digits at the front have, with the `0x` where digits follow it
unfoldable pub digits_length : List ℕ → ℕ
digits_length text = if hex_length text == 0 then prefix_len is_digit text else 2 + hex_length text

-- how many bytes the number at the front has
unfoldable pub number_length : List ℕ → ℕ
number_length text =
    let n = digits_length text in
    n + prefix_len is_suffix_letter (drop n text)

-- what a digit counts, of either kind
abbrev pub digit_value : ℕ → ℕ
digit_value b = if nat_le 97 b then b - 87 else (if nat_le 65 b then b - 55 else b - 48)

-- the number that digits write behind those of another, in a base
abbrev pub value_after : ℕ → ℕ → List ℕ → ℕ
value_after base n [] = n
value_after base n (digit ∷ digits) = value_after base (base * n + digit_value digit) digits

-- the value of the number at the front
unfoldable pub number_value : List ℕ → ℕ
number_value text =
    if hex_length text == 0 then value_after 10 0 (take (prefix_len is_digit text) text)
    else value_after 16 0 (take (hex_length text) (drop 2 text))
