-- Values of digits in a base.
use Rattle.std.proofs.Common.{ℕ, suc, ◌+◌, ◌*◌, ◌<◌, ◌≤◌, List, [], ◌∷◌, length, get_or, drop, drop-cons, sym, subst, arith}
use Rattle.std.proofs.Math.Nat.{mul-le-mul_right}
use Rattle.pd_lexer.specs.Numbers.{digit_value, value_after}

value_grows : (base n : ℕ) (digits : List ℕ) → 1 ≤ base → n ≤ value_after base n digits
value_grows base n [] le = omega arith
value_grows base n (d ∷ digits) le =
    let further = value_grows base (base * n + digit_value d) digits le in
    let times : 1 * n ≤ base * n = mul-le-mul_right n le in
    omega (arith, further, times)

-- a number that is too great with its next digit stays so
pub stays_great : (base limit n i : ℕ) (digits : List ℕ) → 1 ≤ base → i < length digits → limit ≤ base * n + digit_value (get_or digits i 0)
    → limit ≤ value_after base n (drop i digits)
stays_great base limit n i digits le within great =
    let further = value_grows base (base * n + digit_value (get_or digits i 0)) (drop (suc i) digits) le in
    subst (λ l. limit ≤ value_after base n l) (sym (drop-cons digits i 0 within)) (omega (arith, great, further))
