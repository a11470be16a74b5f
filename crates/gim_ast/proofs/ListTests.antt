-- Tests of joined lists, part by part, and rearranged conjunctions.
use Rattle.std.proofs.Common.{◌≡◌, ◌==◌, ℕ, Bool, true, false, List, [], ◌∷◌, map, nat_eq, refl, ap, ◌∙◌, arith}
use Rattle.std.specs.Prelude.{◌&&◌, ◌||◌, not}
use Rattle.std.specs.List.{flat_map, list_any, list_all}
use Rattle.std.proofs.lemmas.List.Folds.{list_any-append, list_all-append}
use Rattle.std.proofs.lemmas.Bool.Decides.{nat_tests}

pub and_cong : (a b c d : Bool) → a ≡ b → c ≡ d → (a && c) ≡ (b && d)
and_cong a b c d e h = rw (e, h) refl

pub or_cong : (a b c d : Bool) → a ≡ b → c ≡ d → (a || c) ≡ (b || d)
or_cong a b c d e h = rw (e, h) refl

pub nat_eq_symm : (a b : ℕ) → nat_eq a b ≡ nat_eq b a
nat_eq_symm a b = grind (arith, nat_tests)

-- neither of two, and what goes on behind
pub neither : (n a b x d e : Bool) → n ≡ (a || b) → x ≡ (d && e) → (not n && x) ≡ ((not a && not b && d) && e)
neither n true b x d e h k = rw h refl
neither n false true x d e h k = rw h refl
neither n false false x d e h k = rw (h, k) refl

pub none_of_three : (n a b c x d e : Bool) → n ≡ (a || (b || c)) → x ≡ (d && e) → (not n && x) ≡ (((not a && not b && not c) && d) && e)
none_of_three n true b c x d e h k = rw h refl
none_of_three n false true c x d e h k = rw h refl
none_of_three n false false true x d e h k = rw h refl
none_of_three n false false false x d e h k = rw (h, k) refl

module _ {X : Type 0} where
  pub any_cong : (p q : X → Bool) → ((x : X) → p x ≡ q x) → (xs : List X) → list_any p xs ≡ list_any q xs
  any_cong p q e [] = refl
  any_cong p q e (x ∷ xs) = or_cong (p x) (q x) (list_any p xs) (list_any q xs) (e x) (any_cong p q e xs)

  pub all_cong : (p q : X → Bool) → ((x : X) → p x ≡ q x) → (xs : List X) → list_all p xs ≡ list_all q xs
  all_cong p q e [] = refl
  all_cong p q e (x ∷ xs) = and_cong (p x) (q x) (list_all p xs) (list_all q xs) (e x) (all_cong p q e xs)

module _ {X Y : Type 0} where
  pub any_map : (p : Y → Bool) (g : X → Y) (xs : List X) → list_any p (map g xs) ≡ list_any (λ x. p (g x)) xs
  any_map p g [] = refl
  any_map p g (x ∷ xs) = ap (λ b. p (g x) || b) (any_map p g xs)

  pub all_map : (p : Y → Bool) (g : X → Y) (xs : List X) → list_all p (map g xs) ≡ list_all (λ x. p (g x)) xs
  all_map p g [] = refl
  all_map p g (x ∷ xs) = ap (λ b. p (g x) && b) (all_map p g xs)

  pub any_flat_map : (p : Y → Bool) (g : X → List Y) (xs : List X) → list_any p (flat_map g xs) ≡ list_any (λ x. list_any p (g x)) xs
  any_flat_map p g [] = refl
  any_flat_map p g (x ∷ xs) = list_any-append p (g x) (flat_map g xs) ∙ ap (λ b. list_any p (g x) || b) (any_flat_map p g xs)

  pub all_flat_map : (p : Y → Bool) (g : X → List Y) (xs : List X) → list_all p (flat_map g xs) ≡ list_all (λ x. list_all p (g x)) xs
  all_flat_map p g [] = refl
  all_flat_map p g (x ∷ xs) = list_all-append p (g x) (flat_map g xs) ∙ ap (λ b. list_all p (g x) && b) (all_flat_map p g xs)

pub any_turned : (x : ℕ) (xs : List ℕ) → list_any (λ y. x == y) xs ≡ list_any (λ y. y == x) xs
any_turned x xs = any_cong (λ y. x == y) (λ y. y == x) (λ y. nat_eq_symm x y) xs
