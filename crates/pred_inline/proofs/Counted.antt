-- How many choices there are of a case of each of several predicates.
use Rattle.std.proofs.Common.{◌≡◌, ℕ, zero, suc, ◌*◌, ◌-◌, ◌^◌, ◌≤◌, ◌<◌, inl, inr, min, List, [], ◌∷◌, length, refl, sym, ap, ◌∙◌, arith}
use Rattle.std.specs.List.{flat_map}
use Rattle.std.proofs.lemmas.Bool.{cases_lt}
use Rattle.std.proofs.lemmas.List.{length-append, length-map}
use Rattle.pred_inline.specs.Inlined.{before_each, choices, counted_within}
use Rattle.pred_inline.specs.declared.case.Case.{Case}

product : (inner : List (List Case)) (cases : List Case) → length (flat_map (before_each inner) cases) ≡ length cases * length inner
product inner [] = omega arith
product inner (case ∷ cases) =
    let one = length-map inner (λ rest. case ∷ rest) in
    let all = length-append (before_each inner case) (flat_map (before_each inner) cases) in
    let rest = product inner cases in
    omega arith

above : (m a b : ℕ) → m < b → min (a * min b m) m ≡ min (a * b) m
above m zero b h = omega arith
above m (suc a) b h =
    let e : min b m ≡ m = omega arith in
    rw e (omega arith)

below : (m a b : ℕ) → b ≤ m → min (a * min b m) m ≡ min (a * b) m
below m a b h =
    let e : min b m ≡ b = omega arith in
    ap (λ x. min (a * x) m) e

capped : (m a b : ℕ) → min (a * min b m) m ≡ min (a * b) m
capped m a b = elim (cases_lt m b) [ inl h ↦ above m a b h | inr h ↦ below m a b h ]

counted : (m : ℕ) (cases : List Case) (rest : List (List Case)) → min (length cases * min (length (choices rest)) m) m ≡ min (length (choices (cases ∷ rest))) m
counted m cases rest =
    capped m (length cases) (length (choices rest))
    ∙ ap (λ n. min n m) (sym (product (choices rest) cases))

pub all_counted : (lists : List (List Case)) → counted_within lists ≡ min (length (choices lists)) (2 ^ 64 - 1)
all_counted [] = refl
all_counted (cases ∷ rest) =
    ap (λ n. min (length cases * n) (2 ^ 64 - 1)) (all_counted rest) ∙ counted (2 ^ 64 - 1) cases rest
