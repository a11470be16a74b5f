-- Counts that end where those of the machine do.
use Rattle.std.proofs.Common.{◌≡◌, ℕ, zero, suc, ◌+◌, ◌^◌, ◌<◌, ◌≤◌, min, Bool, true, false, cond, ◌||◌, List, [], ◌∷◌, ◌++◌, length, IsTrue, refl, sym, ap, subst, ◌∙◌, arith}
use Rattle.std.specs.Prelude.{nat_lt}
use Rattle.std.specs.List.{count_by, list_any}
use Rattle.std.proofs.lemmas.List.Sums.{count_by-le-length, sum_by-append}
use Rattle.std.proofs.lemmas.Bool.{and_parts, ltb-true, lt-ltb}
use Rattle.gim_ast.specs.declared.function.Function.{Function}
use Rattle.gim_ast.specs.Functions.{is_name, is_used, operands_of, uses_of}
use Rattle.gim_ast.specs.WellFormed.{is_well_formed}
use Rattle.std.specs.HashMap.{HashMap}
use Rattle.gim_tables.specs.Told.{most, told, TellsUses}

pub count_append : {X : Type 0} (p : X → Bool) (xs ys : List X) → count_by p (xs ++ ys) ≡ count_by p xs + count_by p ys
count_append p xs ys = sum_by-append (λ x. cond (p x) 1 0) xs ys

pub count_first : {X : Type 0} (p : X → Bool) (x : X) (xs : List X) → count_by p (x ∷ xs) ≡ count_by p (x ∷ []) + count_by p xs
count_first p x xs = count_append p (x ∷ []) xs

-- what was counted further, and the rest
pub further : (a b c r t : ℕ) → min a most ≡ min (b + c) most → min (b + (c + r)) most ≡ t → min (a + r) most ≡ t
further a b c r t now all = omega arith

-- one after the other
pub one_then : (a b c d e : ℕ) → min a most ≡ min (b + c) most → min d most ≡ min (a + e) most → min d most ≡ min (b + (c + e)) most
one_then a b c d e first second = omega arith

some_by : (b : Bool) (n : ℕ) (more : Bool) → nat_lt 0 n ≡ more → nat_lt 0 (cond b 1 0 + n) ≡ (b || more)
some_by true n more is = lt-ltb 0 (1 + n) (omega arith)
some_by false n more is =
    let e : 0 + n ≡ n = omega arith in
    ap (nat_lt 0) e ∙ is

some_count : {X : Type 0} (p : X → Bool) (xs : List X) → nat_lt 0 (count_by p xs) ≡ list_any p xs
some_count p [] = refl
some_count p (x ∷ xs) =
    let one : 0 + cond (p x) 1 0 ≡ cond (p x) 1 0 = omega arith in
    let is : count_by p (x ∷ xs) ≡ cond (p x) 1 0 + count_by p xs = count_first p x xs ∙ ap (λ n. n + count_by p xs) one in
    ap (nat_lt 0) is ∙ some_by (p x) (count_by p xs) (list_any p xs) (some_count p xs)

same_sign : (a b : ℕ) → min a most ≡ min b most → nat_lt 0 a ≡ nat_lt 0 b
same_sign zero zero same = refl
same_sign (suc a) (suc b) same = lt-ltb 0 (suc a) (omega arith) ∙ sym (lt-ltb 0 (suc b) (omega arith))
same_sign zero (suc b) same = absurd (omega arith)
same_sign (suc a) zero same = absurd (omega arith)

-- the count tells whether a name is used
pub used_by_count : {S : Type 0} (table : HashMap ℕ ℕ S) (f : Function) (q : ℕ) → TellsUses table f → nat_lt 0 (told table q) ≡ is_used f q
used_by_count table f q tells = same_sign (told table q) (uses_of f q) (tells q) ∙ some_count (is_name q) (operands_of f)

-- a well-formed function has fewer uses than that
few_uses : (f : Function) (q : ℕ) → is_well_formed f ≡ true → uses_of f q < 2 ^ 31
few_uses f q whole =
    let few : length (operands_of f) < 2 ^ 31 = ltb-true (length (operands_of f)) (2 ^ 31) (and_parts _ _ (and_parts _ _ whole).1).1 in
    omega (arith, few, count_by-le-length (is_name q) (operands_of f))

pub count_is_uses : (count uses : ℕ) → min count most ≡ min uses most → count ≤ most → uses < 2 ^ 31 → count ≡ uses
count_is_uses count uses same fits few = omega arith

pub uses_fit : (f : Function) (q : ℕ) → IsTrue (is_well_formed f) → uses_of f q < 2 ^ 31
uses_fit f q whole = few_uses f q whole

pub count_is_uses_in : {S : Type 0} (table : HashMap ℕ ℕ S) (f : Function) (q count : ℕ) → is_well_formed f ≡ true → TellsUses table f
    → count ≡ told table q → count ≤ most → count ≡ uses_of f q
count_is_uses_in table f q count whole tells is fits =
    count_is_uses count (uses_of f q) (subst (λ n. min n most ≡ min (uses_of f q) most) (sym is) (tells q)) fits (few_uses f q whole)
