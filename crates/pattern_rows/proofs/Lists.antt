-- What is left of a list at a place, as loops over lists meet it.
use Rattle.std.proofs.Common.{◌≡◌, ℕ, zero, suc, ◌+◌, ◌<◌, List, [], ◌∷◌, length, drop, get_or, sym, ap, ◌∙◌, arith}

-- its element there, and what is left behind it
pub left_at : {X : Type 0} (xs : List X) (i : ℕ) (x : X) → i < length xs → x ≡ get_or xs i x → drop i xs ≡ x ∷ drop (i + 1) xs
left_at [] i x within is = absurd (omega arith)
left_at (y ∷ ys) zero x within is = ap (λ z. z ∷ ys) (sym is)
left_at (y ∷ ys) (suc i) x within is =
    let e : suc (i + 1) ≡ suc i + 1 = omega arith in
    left_at ys i x (omega arith) is ∙ ap (λ n. x ∷ drop n (y ∷ ys)) e
