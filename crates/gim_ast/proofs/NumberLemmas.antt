-- A name is read from its base, an underscore and its version, and from nothing else.
use Rattle.std.proofs.Common.{◌≡◌, ◌⊎◌, ℕ, ◌^◌, ◌<◌, ◌≤◌, Bool, true, false, cond, List, [], ◌∷◌, ◌++◌, Option, Some, None, refl, sym, ap, subst, arith, inl, inr}
use Rattle.std.specs.Prelude.{◌==◌, option_map}
use Rattle.std.specs.List.{list_all}
use Rattle.std.specs.Fmt.{decimal}
use Rattle.std.proofs.lemmas.Bool.{and_parts, eqb-true}
use Rattle.gim_ast.specs.Identifiers.{anonymous}
use Rattle.lexing.specs.Bytes.{is_digit}
use Rattle.lexing.proofs.NumberLemmas.{number_below-decimal, number_below_is, number_below_other, decimal_digits, other_among, underscore_is_no_digit}
use Rattle.lexing.specs.Numbers.{number_below}
use Rattle.gim_ast.specs.Numbers.{name_from, name_below}

-- digits alone are no name
pub no_name_in_digits : (limit : ℕ) (ds : List ℕ) → list_all is_digit ds ≡ true → name_below limit ds ≡ None
unfolding name_below
no_name_in_digits limit [] h = refl
no_name_in_digits limit (d ∷ ds) h =
    let p = and_parts (is_digit d) (list_all is_digit ds) h in
    rw (no_name_in_digits limit ds p.1, underscore_is_no_digit d p.0) refl

-- a base, an underscore and digits
pub name_with_version : (limit : ℕ) (base ds : List ℕ) (n : ℕ) → list_all is_digit ds ≡ true → number_below limit ds ≡ Some n → name_below limit (base ++ 95 ∷ ds) ≡ Some (base, n)
unfolding name_below
name_with_version limit [] ds n digits read = rw (no_name_in_digits limit ds digits, read) refl
name_with_version limit (b ∷ base) ds n digits read = rw (name_with_version limit base ds n digits read) refl

-- no name ends in digits that are no version, or that follow another byte than an underscore
pub no_name_at : (limit : ℕ) (front : List ℕ) (b : ℕ) (ds : List ℕ) → is_digit b ≡ false → list_all is_digit ds ≡ true → cond (b == 95) (number_below limit ds) None ≡ None → name_below limit (front ++ b ∷ ds) ≡ None
unfolding name_below
no_name_at limit [] b ds other digits none =
    rw (no_name_in_digits limit ds digits) (last (b == 95) (number_below limit ds) none) where
      last : (t : Bool) (version : Option ℕ) → cond t version None ≡ None → cond t (option_map {T = ℕ} {U = List ℕ × ℕ} (λ n. ([], n)) version) None ≡ None
      last true version e = rw e refl
      last false version e = refl
no_name_at limit (c ∷ front) b ds other digits none =
    rw (no_name_at limit front b ds other digits none, number_below_other limit (front ++ b ∷ ds) (other_among front b ds other)) (either (c == 95)) where
      either : (t : Bool) → cond t (option_map {T = ℕ} {U = List ℕ × ℕ} (λ n. ([], n)) None) None ≡ None
      either true = refl
      either false = refl

pub name_below-anonymous : (limit : ℕ) (base : List ℕ) (n : ℕ) → limit ≤ 2 ^ 64 → n < limit → name_below limit (base ++ anonymous n) ≡ Some (base, n)
name_below-anonymous limit base n low lt = name_with_version limit base (decimal n) n (decimal_digits n (omega arith)) (number_below-decimal limit n low lt)

name_from_is : (b : ℕ) (name : Option (List ℕ × ℕ)) (version : Option ℕ) (x : List ℕ × ℕ) → name_from b name version ≡ Some x
    → ((rest : List ℕ × ℕ) × (name ≡ Some rest) × (x ≡ (b ∷ rest.0, rest.1))) ⊎ ((n : ℕ) × (b ≡ 95) × (version ≡ Some n) × (x ≡ ([], n)))
name_from_is b (Some rest) version x e = inl (rest, refl, cc)
name_from_is b None version x e = inr (last (b == 95) version x e (eqb-true b 95)) where
  last : (t : Bool) (version : Option ℕ) (x : List ℕ × ℕ) → cond t (option_map (λ n. ([], n)) version) None ≡ Some x → (t ≡ true → b ≡ 95) → (n : ℕ) × (b ≡ 95) × (version ≡ Some n) × (x ≡ ([], n))
  last true (Some n) x e h = (n, h refl, refl, cc)
  last true None x e h = absurd cc
  last false version x e h = absurd cc

pub name_below_is : (limit : ℕ) (bs : List ℕ) (x : List ℕ × ℕ) → limit ≤ 2 ^ 64 → name_below limit bs ≡ Some x → (x.1 < limit) × (bs ≡ x.0 ++ anonymous x.1)
unfolding name_below
name_below_is limit [] x low e = absurd cc
name_below_is limit (b ∷ bs) x low e =
    elim (name_from_is b (name_below limit bs) (number_below limit bs) x e) [
      | inl w ↦ let h = name_below_is limit bs w.0 low w.1 in
          subst (λ (y : List ℕ × ℕ). (y.1 < limit) × (b ∷ bs ≡ y.0 ++ anonymous y.1)) (sym w.2) (h.0, ap (λ t. b ∷ t) h.1)
      | inr w ↦ let h = number_below_is limit w.0 bs low w.2 in
          subst (λ (y : List ℕ × ℕ). (y.1 < limit) × (b ∷ bs ≡ y.0 ++ anonymous y.1)) (sym w.3) (h.0, rw (w.1, ← h.1) refl)
    ]
