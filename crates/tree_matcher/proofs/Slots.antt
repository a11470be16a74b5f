-- Captures that are put into their slots one after another.
use Rattle.std.proofs.Common.{◌≡◌, ℕ, zero, suc, ◌+◌, ◌-◌, ◌<◌, ◌≤◌, Option, Some, None, List, [], ◌∷◌, ◌++◌, map, length, set, take, get_or, replicate, refl, sym, ap, ◌∙◌, arith}

-- the element at a place of a list that is filled so far, and empty behind
pub next_slot : {X Y : Type 0} (f : X → Option Y) (xs : List X) (i left : ℕ) (d : X) → i < length xs
    → set (map f (take i xs) ++ None ∷ replicate left None) i (f (get_or xs i d)) ≡ map f (take (suc i) xs) ++ replicate left None
next_slot f [] i left d within = absurd (omega arith)
next_slot f (x ∷ xs) zero left d within = refl
next_slot f (x ∷ xs) (suc i) left d within = ap (λ ys. f x ∷ ys) (next_slot f xs i left d (omega arith))

one_less : (i : ℕ) → i < 32 → 32 - i ≡ suc (32 - (i + 1))
one_less i within = omega arith

pub filled_next : {X Y : Type 0} (f : X → Option Y) (xs : List X) (i : ℕ) (d : X) (a : Y) → i < length xs → length xs ≤ 32 → f (get_or xs i d) ≡ Some a
    → set (map f (take i xs) ++ replicate (32 - i) None) i (Some a) ≡ map f (take (i + 1) xs) ++ replicate (32 - (i + 1)) None
filled_next f xs i d a within few is =
    ap (λ n. set (map f (take i xs) ++ replicate n None) i (Some a)) (one_less i (omega arith))
    ∙ ap (λ o. set (map f (take i xs) ++ replicate (suc (32 - (i + 1))) None) i o) (sym is)
    ∙ next_slot f xs i (32 - (i + 1)) d within
    ∙ (let e : suc i ≡ i + 1 = omega arith in ap (λ n. map f (take n xs) ++ replicate (32 - (i + 1)) None) e)
