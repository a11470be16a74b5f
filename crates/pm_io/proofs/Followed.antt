-- What was taken, and then more, and then more.
use Rattle.std.proofs.Common.{◌≡◌, ℕ, ◌+◌, ◌-◌, List, ◌++◌, length, take, drop, Option, None, Some, refl, ap, ◌∙◌, sym, append_assoc, length-drop, arith}
use Rattle.std.proofs.Math.Seq.{take-add}
use Rattle.std.proofs.lemmas.List.{take_all}
use Rattle.pm_io.specs.Taking.{followed_by}

pub followed_by-append : {X : Type 0} (taken : Option (List X)) (xs ys : List X) → followed_by (followed_by taken xs) ys ≡ followed_by taken (xs ++ ys)
followed_by-append None xs ys = refl
followed_by-append (Some bytes) xs ys = ap Some (append_assoc bytes xs ys)

-- what `&bytes[start..]` is
abbrev pub rest_of : List ℕ → ℕ → List ℕ
rest_of bytes start = take (length bytes - start) (drop start bytes)

pub rest_of-drop : (bytes : List ℕ) (start : ℕ) → rest_of bytes start ≡ drop start bytes
rest_of-drop bytes start = take_all _ _ (simp length-drop (omega arith))

-- the first `start` bytes, and then `count` of those that are left
pub followed_by_take : (taken mid now : Option (List ℕ)) (bytes : List ℕ) (start count : ℕ) → mid ≡ followed_by taken (take start bytes) → now ≡ followed_by mid (take count (rest_of bytes start)) → now ≡ followed_by taken (take (start + count) bytes)
followed_by_take taken mid now bytes start count before more =
    more ∙ ap (λ m. followed_by m (take count (rest_of bytes start))) before
    ∙ followed_by-append taken (take start bytes) (take count (rest_of bytes start))
    ∙ ap (λ rest. followed_by taken (take start bytes ++ take count rest)) (rest_of-drop bytes start)
    ∙ ap (followed_by taken) (sym (take-add start count bytes))
