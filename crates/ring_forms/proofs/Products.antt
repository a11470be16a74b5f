-- Products as lists of numbers that rise, and how often a number stands in one.
use Rattle.std.proofs.Common.{◌≡◌, ℕ, suc, ◌+◌, ◌<◌, ◌≤◌, ◌==◌, ltb, Bool, true, false, cond, List, [], ◌∷◌, ◌++◌, map, ◌⊎◌, inl, inr, refl, sym, ap, ◌∙◌, arith, eq-eqb, eqb-true, ltb-true, ltb-false}
use Rattle.std.specs.Prelude.{nat_le, nat_eq, ⊤}
use Rattle.std.specs.Cmp.{both_ways}
use Rattle.std.specs.Cmp.Lexicographic.{pointwise}
use Rattle.std.specs.List.{list_all, AllByRecursion}
use Rattle.std.proofs.lemmas.Bool.{and_parts, and_from}
use Rattle.std.proofs.lemmas.Bool.Decides.{nat_tests}
use Rattle.std.proofs.lemmas.List.{map-append}
use Rattle.std.proofs.lemmas.List.Folds.{list_all-map}
use Rattle.ring_forms.specs.Sums.{times_in, same_product}
use Rattle.ring_forms.specs.Forms.{with_atom, joined_atoms}
use Rattle.ring_forms.proofs.FormLemmas.{same_numbers, numbers_same}

abbrev pub same_number : ℕ → ℕ → Bool
same_number a b = a == b

-- how often a number stands in a list
abbrev pub count : ℕ → List ℕ → ℕ
count k xs = times_in same_number k xs

abbrev pub Rising : List ℕ → Type 0
Rising [] = ⊤
Rising (x ∷ xs) = AllByRecursion (λ y. x ≤ y) xs × Rising xs

-- the list in rising order
abbrev pub sorted : List ℕ → List ℕ
sorted xs = joined_atoms xs []

all_more : (P Q : ℕ → Type 0) → ((y : ℕ) → P y → Q y) → (xs : List ℕ) → AllByRecursion P xs → AllByRecursion Q xs
all_more P Q f [] h = tt
all_more P Q f (x ∷ xs) h = (f x h.0, all_more P Q f xs h.1)

le_when : (a b : ℕ) → nat_le a b ≡ true → a ≤ b
le_when a b h = grind (arith, nat_tests)

gt_when : (a b : ℕ) → nat_le a b ≡ false → b ≤ a
gt_when a b h = grind (arith, nat_tests)

-- ---- putting numbers in

swapped : (s t : Bool) (n : ℕ) → cond s (suc (cond t (suc n) n)) (cond t (suc n) n) ≡ cond t (suc (cond s (suc n) n)) (cond s (suc n) n)
swapped true true n = refl
swapped true false n = refl
swapped false true n = refl
swapped false false n = refl

pub with_atom_count : (k a : ℕ) (bs : List ℕ) → count k (with_atom a bs) ≡ count k (a ∷ bs)
with_atom_count k a [] = refl
with_atom_count k a (b ∷ bs) = by (nat_le a b) (with_atom_count k a bs)
  where
    by : (t : Bool) → count k (with_atom a bs) ≡ count k (a ∷ bs) → count k (cond t (a ∷ b ∷ bs) (b ∷ with_atom a bs)) ≡ count k (a ∷ b ∷ bs)
    by true e = refl
    by false e = ap (λ n. cond (k == b) (suc n) n) e ∙ swapped (k == b) (k == a) (count k bs)

with_atom_low : (n a : ℕ) (bs : List ℕ) → n ≤ a → AllByRecursion (λ y. n ≤ y) bs → AllByRecursion (λ y. n ≤ y) (with_atom a bs)
with_atom_low n a [] h g = (h, tt)
with_atom_low n a (b ∷ bs) h g = by (nat_le a b) (with_atom_low n a bs h g.1)
  where
    by : (t : Bool) → AllByRecursion (λ y. n ≤ y) (with_atom a bs) → AllByRecursion (λ y. n ≤ y) (cond t (a ∷ b ∷ bs) (b ∷ with_atom a bs))
    by true later = (h, g)
    by false later = (g.0, later)

pub with_atom_rising : (a : ℕ) (bs : List ℕ) → Rising bs → Rising (with_atom a bs)
with_atom_rising a [] h = (tt, tt)
with_atom_rising a (b ∷ bs) h = by (nat_le a b) refl (with_atom_rising a bs h.1)
  where
    by : (t : Bool) → nat_le a b ≡ t → Rising (with_atom a bs) → Rising (cond t (a ∷ b ∷ bs) (b ∷ with_atom a bs))
    by true e later = let le = le_when a b e in ((le, all_more (λ y. b ≤ y) (λ y. a ≤ y) (λ y i. omega (arith, le, i)) bs h.0), h)
    by false e later = (with_atom_low b a bs (gt_when a b e) h.0, later)

pub joined_rising : (xs ys : List ℕ) → Rising ys → Rising (joined_atoms xs ys)
joined_rising [] ys h = h
joined_rising (x ∷ xs) ys h = joined_rising xs (with_atom x ys) (with_atom_rising x ys h)

pub joined_count : (k : ℕ) (xs ys : List ℕ) → count k (joined_atoms xs ys) ≡ count k xs + count k ys
joined_count k [] ys = omega arith
joined_count k (x ∷ xs) ys = by (k == x) (joined_count k xs (with_atom x ys) ∙ ap (λ n. count k xs + n) (with_atom_count k x ys))
  where
    by : (t : Bool) → count k (joined_atoms xs (with_atom x ys)) ≡ count k xs + cond t (suc (count k ys)) (count k ys) → count k (joined_atoms xs (with_atom x ys)) ≡ cond t (suc (count k xs)) (count k xs) + count k ys
    by true e = omega (arith, e)
    by false e = e

-- ---- a list that rises is known by its counts

here : (x : ℕ) (xs : List ℕ) → count x (x ∷ xs) ≡ suc (count x xs)
here x xs = ap (λ t. cond t (suc (count x xs)) (count x xs)) (eq-eqb x x refl)

absent : (k : ℕ) (ys : List ℕ) → AllByRecursion (λ y. k < y) ys → count k ys ≡ 0
absent k [] h = refl
absent k (y ∷ ys) h = by (k == y) refl (absent k ys h.1)
  where
    by : (t : Bool) → (k == y) ≡ t → count k ys ≡ 0 → cond t (suc (count k ys)) (count k ys) ≡ 0
    by true e later = let is = eqb-true k y e in let less = h.0 in absurd (omega (arith, is, less))
    by false e later = later

first_less : (x y : ℕ) (xs ys : List ℕ) → x < y → AllByRecursion (λ z. y ≤ z) ys → count x (x ∷ xs) ≡ count x (y ∷ ys) → ⊥
first_less x y xs ys less h e =
    let none : count x (y ∷ ys) ≡ 0 = absent x (y ∷ ys) (less, all_more (λ z. y ≤ z) (λ z. x < z) (λ z i. omega (arith, less, i)) ys h) in
    let some = here x xs in
    omega (arith, none, some, e)

tails : (x : ℕ) (xs ys : List ℕ) (k : ℕ) → count k (x ∷ xs) ≡ count k (x ∷ ys) → count k xs ≡ count k ys
tails x xs ys k e = by (k == x) e
  where
    by : (t : Bool) → cond t (suc (count k xs)) (count k xs) ≡ cond t (suc (count k ys)) (count k ys) → count k xs ≡ count k ys
    by true g = omega (arith, g)
    by false g = g

pub rising_unique : (xs ys : List ℕ) → Rising xs → Rising ys → ((k : ℕ) → count k xs ≡ count k ys) → xs ≡ ys
rising_unique [] [] h g e = refl
rising_unique [] (y ∷ ys) h g e = let some = here y ys in let none = e y in absurd (omega (arith, some, none))
rising_unique (x ∷ xs) [] h g e = let some = here x xs in let none = e x in absurd (omega (arith, some, none))
rising_unique (x ∷ xs) (y ∷ ys) h g e = by (ltb x y) (ltb y x) refl refl (rising_unique xs ys h.1 g.1)
  where
    by : (s t : Bool) → ltb x y ≡ s → ltb y x ≡ t → (((k : ℕ) → count k xs ≡ count k ys) → xs ≡ ys) → (x ∷ xs) ≡ (y ∷ ys)
    by true t p q later = absurd (first_less x y xs ys (ltb-true x y p) g.0 (e x))
    by false true p q later = absurd (first_less y x ys xs (ltb-true y x q) h.0 (sym (e y)))
    by false false p q later =
        let a = ltb-false x y p in
        let b = ltb-false y x q in
        let is : x ≡ y = omega (arith, a, b) in
        let rest = later (λ k. tails x xs ys k (e k ∙ ap (λ z. count k (z ∷ ys)) (sym is))) in
        λ i. is i ∷ rest i

-- ---- sorted lists

pub sorted_rising : (xs : List ℕ) → Rising (sorted xs)
sorted_rising xs = joined_rising xs [] tt

pub sorted_count : (k : ℕ) (xs : List ℕ) → count k (sorted xs) ≡ count k xs
sorted_count k xs = let e = joined_count k xs [] in omega (arith, e)

pub sorted_itself : (xs : List ℕ) → Rising xs → sorted xs ≡ xs
sorted_itself xs h = rising_unique (sorted xs) xs (sorted_rising xs) h (λ k. sorted_count k xs)

append_count : (k : ℕ) (xs ys : List ℕ) → count k (xs ++ ys) ≡ count k xs + count k ys
append_count k [] ys = omega arith
append_count k (x ∷ xs) ys = by (k == x) (append_count k xs ys)
  where
    by : (t : Bool) → count k (xs ++ ys) ≡ count k xs + count k ys → cond t (suc (count k (xs ++ ys))) (count k (xs ++ ys)) ≡ cond t (suc (count k xs)) (count k xs) + count k ys
    by true e = omega (arith, e)
    by false e = e

-- the product of sorted products
pub joined_sorted : (xs ys : List ℕ) → joined_atoms (sorted xs) (sorted ys) ≡ sorted (xs ++ ys)
joined_sorted xs ys =
    rising_unique (joined_atoms (sorted xs) (sorted ys)) (sorted (xs ++ ys)) (joined_rising (sorted xs) (sorted ys) (sorted_rising ys)) (sorted_rising (xs ++ ys))
    (λ k. joined_count k (sorted xs) (sorted ys) ∙ (λ i. sorted_count k xs i + sorted_count k ys i) ∙ sym (append_count k xs ys) ∙ sym (sorted_count k (xs ++ ys)))

-- ---- the same product

in_or_out : (test : ℕ → Bool) (zs : List ℕ) (k : ℕ) → list_all test zs ≡ true → (count k zs ≡ 0) ⊎ (test k ≡ true)
in_or_out test [] k h = inl refl
in_or_out test (z ∷ zs) k h = let both = and_parts (test z) (list_all test zs) h in by (k == z) refl both.0 (in_or_out test zs k both.1)
  where
    by : (t : Bool) → (k == z) ≡ t → test z ≡ true → (count k zs ≡ 0) ⊎ (test k ≡ true) → (cond t (suc (count k zs)) (count k zs) ≡ 0) ⊎ (test k ≡ true)
    by true e g later = inr (ap test (eqb-true k z e) ∙ g)
    by false e g later = later

pub same_counts : (xs ys : List ℕ) → same_product same_number xs ys ≡ true → (k : ℕ) → count k xs ≡ count k ys
same_counts xs ys h k = by (in_or_out (λ a. count a xs == count a ys) (xs ++ ys) k h)
  where
    by : ((count k (xs ++ ys) ≡ 0) ⊎ ((count k xs == count k ys) ≡ true)) → count k xs ≡ count k ys
    by (inl e) = let both = append_count k xs ys in omega (arith, e, both)
    by (inr e) = eqb-true (count k xs) (count k ys) e

all_true : {X : Type 0} (test : X → Bool) (zs : List X) → ((k : X) → test k ≡ true) → list_all test zs ≡ true
all_true test [] h = refl
all_true test (z ∷ zs) h = and_from (test z) (list_all test zs) (h z) (all_true test zs h)

-- products of numbers are the same exactly where they are one when sorted
pub same_sorted : (xs ys : List ℕ) → same_product same_number xs ys ≡ pointwise nat_eq (sorted xs) (sorted ys)
same_sorted xs ys =
    both_ways (same_product same_number xs ys) (pointwise nat_eq (sorted xs) (sorted ys))
    (λ h. numbers_same (sorted xs) (sorted ys) (rising_unique (sorted xs) (sorted ys) (sorted_rising xs) (sorted_rising ys) (λ k. sorted_count k xs ∙ same_counts xs ys h k ∙ sym (sorted_count k ys))))
    (λ h. (let is = same_numbers (sorted xs) (sorted ys) h in
    all_true (λ a. count a xs == count a ys) (xs ++ ys) (λ k. eq-eqb (count k xs) (count k ys) (sym (sorted_count k xs) ∙ ap (count k) is ∙ sorted_count k ys))))

-- ---- factors that are the same where they have one number

module _ {X : Type 0} (number : X → ℕ) where
  abbrev pub by_number : X → X → Bool
  by_number a b = number a == number b

  -- the numbers of the factors, sorted
  abbrev pub key : List X → List ℕ
  key p = sorted (map number p)

  times_number : (a : X) (p : List X) → times_in by_number a p ≡ count (number a) (map number p)
  times_number a [] = refl
  times_number a (b ∷ bs) = ap (λ n. cond (number a == number b) (suc n) n) (times_number a bs)

  pub same_key : (p q : List X) → same_product by_number p q ≡ pointwise nat_eq (key p) (key q)
  same_key p q =
      (λ i. list_all (λ a. times_number a p i == times_number a q i) (p ++ q))
      ∙ sym (list_all-map (λ k. count k (map number p) == count k (map number q)) number (p ++ q))
      ∙ ap (list_all (λ k. count k (map number p) == count k (map number q))) (map-append number p q)
      ∙ same_sorted (map number p) (map number q)

  pub key-append : (p q : List X) → key (p ++ q) ≡ joined_atoms (key p) (key q)
  key-append p q = ap sorted (map-append number p q) ∙ sym (joined_sorted (map number p) (map number q))
