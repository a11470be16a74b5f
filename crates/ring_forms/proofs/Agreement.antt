-- Tests of factors that agree on the factors of sums: the sums then have the same coefficients and
-- forms by either.
use Rattle.std.proofs.Common.{◌≡◌, ℕ, suc, ◌==◌, Bool, true, false, not, cond, ◌&&◌, ◌||◌, List, [], ◌∷◌, ◌++◌, map, length, refl, ◌∙◌}
use Rattle.std.specs.Prelude.{ℤ, pos, ◌+ℤ◌, ◌*ℤ◌, ◌^◌, nat_le, nat_lt}
use Rattle.std.specs.Int.RustNames.{unsigned_abs}
use Rattle.std.specs.List.{list_all, list_any, filter, AllByRecursion}
use Rattle.std.specs.Set.{unique_keys}
use Rattle.pm_wide.specs.Residues.{residue}
use Rattle.pm_term.specs.Trees.{Tree}
use Rattle.ring_forms.specs.Sums.{Sum, times_in, same_product, coefficient, negated, scaled, product}
use Rattle.ring_forms.specs.ExactForms.{exact_monomials, is_exactly_within}
use Rattle.ring_forms.specs.RingForms.{form_coefficient, products, same_form, monomials, is_within}

-- ---- what holds of all of a list

pub all_append : {X : Type 0} (P : X → Type 0) (xs ys : List X) → AllByRecursion P xs → AllByRecursion P ys → AllByRecursion P (xs ++ ys)
all_append P [] ys h g = g
all_append P (x ∷ xs) ys h g = (h.0, all_append P xs ys h.1 g)

all_filter : {X : Type 0} (P : X → Type 0) (test : X → Bool) (xs : List X) → AllByRecursion P xs → AllByRecursion P (filter test xs)
all_filter P test [] h = tt
all_filter P test (x ∷ xs) h = by (test x) (all_filter P test xs h.1)
  where
    by : (t : Bool) → AllByRecursion P (filter test xs) → AllByRecursion P (cond t (x ∷ filter test xs) (filter test xs))
    by true later = (h.0, later)
    by false later = later

list_all_agree : {X : Type 0} (P : X → Type 0) (f g : X → Bool) → ((x : X) → P x → f x ≡ g x) → (xs : List X) → AllByRecursion P xs → list_all f xs ≡ list_all g xs
list_all_agree P f g e [] h = refl
list_all_agree P f g e (x ∷ xs) h = λ i. e x h.0 i && list_all_agree P f g e xs h.1 i

list_any_agree : {X : Type 0} (P : X → Type 0) (f g : X → Bool) → ((x : X) → P x → f x ≡ g x) → (xs : List X) → AllByRecursion P xs → list_any f xs ≡ list_any g xs
list_any_agree P f g e [] h = refl
list_any_agree P f g e (x ∷ xs) h = λ i. e x h.0 i || list_any_agree P f g e xs h.1 i

filter_agree : {X : Type 0} (P : X → Type 0) (f g : X → Bool) → ((x : X) → P x → f x ≡ g x) → (xs : List X) → AllByRecursion P xs → filter f xs ≡ filter g xs
filter_agree P f g e [] h = refl
filter_agree P f g e (x ∷ xs) h = λ i. cond (e x h.0 i) (x ∷ filter_agree P f g e xs h.1 i) (filter_agree P f g e xs h.1 i)

unique_agree : {X : Type 0} (P : X → Type 0) (f g : X → X → Bool) → ((x y : X) → P x → P y → f x y ≡ g x y) → (xs : List X) → AllByRecursion P xs → unique_keys f xs ≡ unique_keys g xs
unique_agree P f g e [] h = refl
unique_agree P f g e (x ∷ xs) h =
    λ i. cond (list_any_agree P (f x) (g x) (λ y p. e x y h.0 p) xs h.1 i) (unique_agree P f g e xs h.1 i) (x ∷ unique_agree P f g e xs h.1 i)

-- ---- sums of such factors

-- each factor of each entry
abbrev pub Factors : {X : Type 0} → (X → Type 0) → Sum X → Type 0
Factors P f = AllByRecursion (λ e. AllByRecursion P e.1) f

pub negated_factors : {X : Type 0} (P : X → Type 0) (f : Sum X) → Factors P f → Factors P (negated f)
negated_factors P [] h = tt
negated_factors P (e ∷ es) h = (h.0, negated_factors P es h.1)

pub scaled_factors : {X : Type 0} (P : X → Type 0) (c : ℤ) (f : Sum X) → Factors P f → Factors P (scaled c f)
scaled_factors P c [] h = tt
scaled_factors P c (e ∷ es) h = (h.0, scaled_factors P c es h.1)

pub append_factors : {X : Type 0} (P : X → Type 0) (f g : Sum X) → Factors P f → Factors P g → Factors P (f ++ g)
append_factors P f g h i = all_append (λ e. AllByRecursion P e.1) f g h i

times_factors : {X : Type 0} (P : X → Type 0) (c : ℤ) (p : List X) (g : Sum X) → AllByRecursion P p → Factors P g → Factors P (map (λ f. (c *ℤ f.0, p ++ f.1)) g)
times_factors P c p [] h i = tt
times_factors P c p (e ∷ es) h i = (all_append P p e.1 h i.0, times_factors P c p es h i.1)

pub product_factors : {X : Type 0} (P : X → Type 0) (f g : Sum X) → Factors P f → Factors P g → Factors P (product f g)
product_factors P [] g h i = tt
product_factors P (e ∷ es) g h i = append_factors P (map (λ f. (e.0 *ℤ f.0, e.1 ++ f.1)) g) (product es g) (times_factors P e.0 e.1 g h.0 i) (product_factors P es g h.1 i)

each_product : (P : Tree → Type 0) (f : Sum Tree) → Factors P f → AllByRecursion (λ p. AllByRecursion P p) (products f)
each_product P [] h = tt
each_product P (e ∷ es) h = (h.0, each_product P es h.1)

-- ---- tests that agree

module _ (P : Tree → Type 0) (s t : Tree → Tree → Bool) (agree : (a b : Tree) → P a → P b → s a b ≡ t a b) where
  abbrev AllP : List Tree → Type 0
  AllP p = AllByRecursion P p

  times_agree : (a : Tree) (p : List Tree) → P a → AllP p → times_in s a p ≡ times_in t a p
  times_agree a [] h g = refl
  times_agree a (b ∷ bs) h g = λ i. cond (agree a b h g.0 i) (suc (times_agree a bs h g.1 i)) (times_agree a bs h g.1 i)

  product_agree : (p q : List Tree) → AllP p → AllP q → same_product s p q ≡ same_product t p q
  product_agree p q h g =
      list_all_agree P (λ a. times_in s a p == times_in s a q) (λ a. times_in t a p == times_in t a q) (λ a i. (λ j. times_agree a p i h j == times_agree a q i g j))
      (p ++ q) (all_append P p q h g)

  pub coefficient_agree : (p : List Tree) (f : Sum Tree) → AllP p → Factors P f → coefficient s p f ≡ coefficient t p f
  coefficient_agree p [] h g = refl
  coefficient_agree p (e ∷ es) h g = λ i. cond (product_agree p e.1 h g.0 i) e.0 (pos 0) +ℤ coefficient_agree p es h g.1 i

  pub form_agree : (m : ℕ) (f g : Sum Tree) → Factors P f → Factors P g → same_form s m f g ≡ same_form t m f g
  form_agree m f g h i =
      list_all_agree AllP (λ p. form_coefficient s m p f == form_coefficient s m p g) (λ p. form_coefficient t m p f == form_coefficient t m p g)
      (λ p k. (λ j. residue m (coefficient_agree p f k h j) == residue m (coefficient_agree p g k i j)))
      (products f ++ products g) (all_append AllP (products f) (products g) (each_product P f h) (each_product P g i))

  monomials_agree : (m : ℕ) (f : Sum Tree) → Factors P f → monomials s m f ≡ monomials t m f
  monomials_agree m f h =
      filter_agree AllP (λ p. not (form_coefficient s m p f == 0)) (λ p. not (form_coefficient t m p f == 0)) (λ p k. (λ j. not (residue m (coefficient_agree p f k h j) == 0))) (products f)
      (each_product P f h)

  pub within_agree : (m : ℕ) (f : Sum Tree) → Factors P f → is_within s m f ≡ is_within t m f
  within_agree m f h =
      let few = unique_agree AllP (same_product s) (same_product t) product_agree (monomials s m f) (all_filter AllP (λ p. not (form_coefficient s m p f == 0)) (products f) (each_product P f h)) in
      let is = monomials_agree m f h in
      (λ i. nat_le (length (few i)) 64 && list_all (λ p. nat_le (length p) 8) (monomials s m f))
      ∙ (λ i. nat_le (length (unique_keys (same_product t) (is i))) 64 && list_all (λ p. nat_le (length p) 8) (is i))

  exact_monomials_agree : (f : Sum Tree) → Factors P f → exact_monomials s f ≡ exact_monomials t f
  exact_monomials_agree f h =
      filter_agree AllP (λ p. not (unsigned_abs (coefficient s p f) == 0)) (λ p. not (unsigned_abs (coefficient t p f) == 0)) (λ p k. (λ j. not (unsigned_abs (coefficient_agree p f k h j) == 0))) (products f)
      (each_product P f h)

  pub exactly_within_agree : (f : Sum Tree) → Factors P f → is_exactly_within s f ≡ is_exactly_within t f
  exactly_within_agree f h =
      let few = unique_agree AllP (same_product s) (same_product t) product_agree (exact_monomials s f) (all_filter AllP (λ p. not (unsigned_abs (coefficient s p f) == 0)) (products f) (each_product P f h)) in
      let is = exact_monomials_agree f h in
      let small = list_all_agree AllP (λ p. nat_lt (unsigned_abs (coefficient s p f)) (2 ^ 56)) (λ p. nat_lt (unsigned_abs (coefficient t p f)) (2 ^ 56)) (λ p k. (λ j. nat_lt (unsigned_abs (coefficient_agree p f k h j)) (2 ^ 56))) (products f) (each_product P f h) in
      (λ i. nat_le (length (few i)) 64 && list_all (λ p. nat_le (length p) 8) (exact_monomials s f) && small i)
      ∙ (λ i. nat_le (length (unique_keys (same_product t) (is i))) 64 && list_all (λ p. nat_le (length p) 8) (is i) && list_all (λ p. nat_lt (unsigned_abs (coefficient t p f)) (2 ^ 56)) (products f))
