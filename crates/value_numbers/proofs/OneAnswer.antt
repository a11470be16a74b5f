-- The merges of a function, and what they leave, are determined.
use Rattle.std.proofs.Common.{◌≡◌, ℕ, ◌≤◌, List, [], ◌∷◌, ◌++◌, refl, sym, ap, ap₂, subst, ◌∙◌, arith}
use Rattle.std.specs.List.{AllByRecursion}
use Rattle.gim_ast.specs.declared.function.Function.{Function}
use Rattle.gim_changes.proofs.Members.{IsMember, first_or, rest_of, each_member, member_middle}
use Rattle.value_numbers.specs.Merges.{MayTake, HasNone, IsLeast, IsMerge, merged, Numbers, done}
use Rattle.value_numbers.specs.Merges.{merge}
use Rattle.value_numbers.specs.Spots.{Spot, spots_of}

-- the first statement for which there is a name is one
one_spot : (f : Function) (before others : List Spot) (spot other : Spot) (after rest : List Spot)
    (y z : ℕ) → before ++ spot ∷ after ≡ others ++ other ∷ rest →
    AllByRecursion (HasNone f) before → AllByRecursion (HasNone f) others → MayTake f spot y →
    MayTake f other z → spot ≡ other
one_spot f [] [] spot other after rest y z same none none' may may' = ap (first_or spot) same
one_spot f [] (t ∷ others) spot other after rest y z same none none' may may' =
    absurd (none'.0 y (subst (λ (s : Spot). MayTake f s y) (ap (first_or spot) same) may))
one_spot f (t ∷ before) [] spot other after rest y z same none none' may may' =
    absurd (none.0 z (subst (λ (s : Spot). MayTake f s z) (sym (ap (first_or t) same)) may'))
one_spot f (t ∷ before) (u ∷ others) spot other after rest y z same none none' may may' =
    one_spot f before others spot other after rest y z (ap rest_of same) none.1 none'.1 may may'

pub one_merge : (f : Function) (x y v w : ℕ) → IsMerge f x y → IsMerge f v w → (x ≡ v) × (y ≡ w)
one_merge f x y v w first second =
    let same = one_spot f first.before second.before first.spot second.spot first.after second.after
    y w (sym first.in_order ∙ second.in_order) first.none_before second.none_before
    first.least.may second.least.may in
    let at_most : y ≤ w = first.least.least w
    (subst (λ (s : Spot). MayTake f s w) (sym same) second.least.may) in
    let at_least : w ≤ y = second.least.least y
    (subst (λ (s : Spot). MayTake f s y) same first.least.may) in
    (sym first.name ∙ ap (λ (s : Spot). s.stmt.name) same ∙ second.name, omega (arith, at_most, at_least))

nothing_first : (f : Function) (x y : ℕ) → AllByRecursion (HasNone f) (spots_of f) →
    IsMerge f x y → ⊥
nothing_first f x y none first =
    each_member (HasNone f) (spots_of f) none first.spot
    (subst (IsMember first.spot) (sym first.in_order)
    (member_middle first.spot first.before first.after)) y first.least.may

pub one_answer : (f : Function) (merges others : List (ℕ × ℕ)) (g h : Function) →
    Numbers f merges g → Numbers f others h → (merges ≡ others) × (g ≡ h)
one_answer _ _ _ _ _ (done f none) (done _ none') = (refl, refl)
one_answer _ _ _ _ _ (done f none) (merge _ h x y others first rest) =
    absurd (nothing_first f x y none first)
one_answer _ _ _ _ _ (merge f g x y merges first rest) (done _ none) =
    absurd (nothing_first f x y none first)
one_answer _ _ _ _ _ (merge f g x y merges first rest) (merge _ h v w others second more) =
    let same = one_merge f x y v w first second in
    let back : Numbers (merged x y f) others h =
    subst (λ n. Numbers (merged x n f) others h) (sym same.1)
    (subst (λ n. Numbers (merged n w f) others h) (sym same.0) more) in
    let r = one_answer (merged x y f) merges others g h rest back in (
      ap₂ (λ (pair : ℕ × ℕ) (l : List (ℕ × ℕ)). pair ∷ l)
          (ap₂ (λ (n m : ℕ). let p : ℕ × ℕ = (n, m) in p) same.0 same.1) r.0,
      r.1,
    )
