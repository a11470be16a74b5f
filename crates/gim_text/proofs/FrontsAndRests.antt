-- A list up to a place, and from there on.
use Rattle.std.proofs.Common.{◌≡◌, ℕ, zero, suc, ◌+◌, ◌-◌, ◌<◌, ◌≤◌, List, [], ◌∷◌, ◌++◌, length}
use Rattle.std.proofs.Common.{get_or, map, take, drop, drop-cons, add-one, refl, subst, sym, ap, ◌∙◌, arith}
use Rattle.std.proofs.lemmas.List.{map-append, take_more, take_all}

take_suc : {X : Type 0} (xs : List X) (i : ℕ) (x : X) → i < length xs → x ≡ get_or xs i x → take (suc i) xs ≡ take i xs ++ x ∷ []
take_suc [] i x lt is = absurd (omega arith)
take_suc (y ∷ xs) zero x lt is = ap (λ z. z ∷ []) (sym is)
take_suc (y ∷ xs) (suc i) x lt is = ap (λ zs. y ∷ zs) (take_suc xs i x (omega arith) is)

pub take_step : {X : Type 0} (xs : List X) (i : ℕ) (x : X) → i < length xs → x ≡ get_or xs i x → take (i + 1) xs ≡ take i xs ++ x ∷ []
take_step xs i x lt is = rw add-one (take_suc xs i x lt is)

pub map_step : {X Y : Type 0} (f : X → Y) (xs : List X) (i : ℕ) (x : X) → i < length xs → x ≡ get_or xs i x
    → map f (take (i + 1) xs) ≡ map f (take i xs) ++ f x ∷ []
map_step f xs i x lt is = ap (map f) (take_step xs i x lt is) ∙ map-append f (take i xs) (x ∷ [])

pub drop_step : {X : Type 0} (xs : List X) (i : ℕ) (x : X) → i < length xs → x ≡ get_or xs i x → drop i xs ≡ x ∷ drop (i + 1) xs
drop_step xs i x lt is = rw add-one (drop-cons xs i x lt ∙ ap (λ y. y ∷ drop (suc i) xs) (sym is))

pub map_step_at : {X Y : Type 0} (f : X → Y) (xs : List X) (i : ℕ) (d : X) → i < length xs
    → map f (take (i + 1) xs) ≡ map f (take i xs) ++ f (get_or xs i d) ∷ []
map_step_at f xs i d lt = ap (map f) (take_more xs i d lt) ∙ map-append f (take i xs) (get_or xs i d ∷ [])

pub first_and_rest : {X : Type 0} (xs : List X) (x : X) → 0 < length xs → x ≡ get_or xs 0 x → xs ≡ x ∷ take (length xs - 1) (drop 1 xs)
first_and_rest [] x lt is = absurd (omega arith)
first_and_rest (y ∷ xs) x lt is = ap (λ z. z ∷ xs) (sym is) ∙ ap (λ zs. x ∷ zs) (sym (take_all (length (y ∷ xs) - 1) xs (omega arith)))

-- the list from the place before on
pub item_before : {X : Type 0} (xs : List X) (at : ℕ) (x : X) → 0 < at → at ≤ length xs → x ≡ get_or xs (at - 1) x
    → drop (at - 1) xs ≡ x ∷ drop at xs
item_before xs zero x some within is = absurd (omega arith)
item_before xs (suc at) x some within is =
    let e : suc at - 1 ≡ at = omega arith in
    let here : x ≡ get_or xs at x = subst (λ i. x ≡ get_or xs i x) e is in
    rw e (drop-cons xs at x (omega arith) ∙ ap (λ y. y ∷ drop (suc at) xs) (sym here))

pub drop_all : {X : Type 0} (xs : List X) → drop (length xs) xs ≡ []
drop_all [] = refl
drop_all (x ∷ xs) = drop_all xs

pub drop_past : {X : Type 0} (xs : List X) (i : ℕ) → length xs ≤ i → drop i xs ≡ []
drop_past [] zero le = refl
drop_past [] (suc i) le = refl
drop_past (x ∷ xs) zero le = absurd (omega arith)
drop_past (x ∷ xs) (suc i) le = drop_past xs i (omega arith)
