-- Numbers as they are read from their digits.
use Rattle.std.specs.Prelude.{◌≡◌, ◌≤◌, ℕ, ◌+◌, ◌*◌, ◌-◌, ◌^◌, ◌==◌, nat_lt, min, Bool, false, not, ◌&&◌, MatchOption, Option, Some, None, List, [], ◌∷◌, if◌then◌else◌}
use Rattle.std.specs.List.{list_all}
use Rattle.lexing.specs.Bytes.{is_digit}

-- digits without a leading zero, one at least
abbrev pub is_number_text : List ℕ → Bool
is_number_text [] = false
is_number_text (b ∷ []) = is_digit b
is_number_text (b ∷ c ∷ bs) = is_digit b && not (b == 48) && list_all is_digit (c ∷ bs)

-- the digits at the front of a text
abbrev pub leading_digits : List ℕ → List ℕ
leading_digits [] = []
leading_digits (b ∷ bytes) = if is_digit b then b ∷ leading_digits bytes else []

-- the number that digits write behind those of another
abbrev pub number_after : ℕ → List ℕ → ℕ
number_after n [] = n
number_after n (digit ∷ digits) = number_after (10 * n + (digit - 48)) digits

-- the same, or the limit as soon as it is as great
abbrev pub capped : ℕ → ℕ → List ℕ → ℕ
capped limit n [] = n
capped limit n (digit ∷ digits) = capped limit (min (10 * n + (digit - 48)) limit) digits

-- the number, where the bytes write one below the limit, without a leading zero
unfoldable pub number_below : ℕ → List ℕ → Option ℕ
number_below limit bytes = if is_number_text bytes then (if nat_lt (capped limit 0 bytes) limit then Some (capped limit 0 bytes) else None) else None

-- the size of a number, where it is below 2 to the 128th
abbrev pub IsSize : Option ℕ → ℕ → Type 0
IsSize size n = MatchOption size (2 ^ 128 ≤ n) (λ m. m ≡ n)
