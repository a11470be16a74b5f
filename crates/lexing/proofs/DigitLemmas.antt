-- A further digit makes no number less.
use Rattle.std.proofs.Common.{ℕ, suc, ◌+◌, ◌*◌, ◌-◌, ◌<◌, ◌≤◌, List, [], ◌∷◌, length, get_or, drop, drop-cons, sym, subst, arith}
use Rattle.lexing.specs.Numbers.{number_after}

pub number_grows : (n : ℕ) (ds : List ℕ) → n ≤ number_after n ds
number_grows n [] = omega arith
number_grows n (d ∷ ds) = let further = number_grows (10 * n + (d - 48)) ds in omega (arith, further)

-- a number that is too great with its next digit stays so
pub stays_great : (limit n i : ℕ) (ds : List ℕ) → i < length ds → limit ≤ 10 * n + (get_or ds i 0 - 48) → limit ≤ number_after n (drop i ds)
stays_great limit n i ds within great =
    let further = number_grows (10 * n + (get_or ds i 0 - 48)) (drop (suc i) ds) in
    subst (λ l. limit ≤ number_after n l) (sym (drop-cons ds i 0 within)) (omega (arith, great, further))
