-- Forms without zeros whose parts rise, and that such a form is known by its coefficients.
use Rattle.std.proofs.Common.{◌≡◌, ℕ, zero, suc, ◌<◌, ◌≤◌, ◌==◌, ◌^◌, Bool, true, false, not, cond, ◌||◌, List, [], ◌∷◌, map, refl, sym, ap, subst, ◌∙◌, arith, eqb-true, pow_mono, Ordering, Less, Equal, Greater}
use Rattle.std.specs.Prelude.{ℤ, pos, negsuc, ◌+ℤ◌, ◌-ℤ◌, ◌*ℤ◌, nat_eq, ⊤}
use Rattle.std.specs.Cmp.Lexicographic.{slice_cmp, pointwise, texts_ties}
use Rattle.std.specs.List.{AllByRecursion, list_any}
use Rattle.std.specs.List.Sorted.{IsStrictlySortedBy}
use Rattle.std.specs.Ordering.{nat_cmp, ordering_reverse, is_eq}
use Rattle.std.specs.Set.{is_member}
use Rattle.std.proofs.lemmas.Bool.{eqb-false}
use Rattle.std.proofs.lemmas.Cmp.{nat_list_cmp_total}
use Rattle.std.proofs.lemmas.Int.{ints}
use Rattle.std.proofs.lemmas.Nat.{pow_pos}
use Rattle.pm_ops.specs.declared.code.Code.{Code}
use Rattle.pm_ops.specs.declared.code.Code.TheVariants.{Minus, Mult, Negate, BitNot, Lshift}
use Rattle.pm_wide.specs.Congruence.{Congruent}
use Rattle.pm_wide.specs.Residues.{residue}
use Rattle.pm_wide.proofs.Congruence.{same, turned, differences}
use Rattle.pm_wide.proofs.Residues.{residue_congruent, residue-below}
use Rattle.pm_wide.proofs.Words.{same_word, word-value}
use Rattle.ring_forms.specs.declared.form.Part.{Part}
use Rattle.ring_forms.specs.Forms.{part_of, placed, with_part, with_product, constant_form, atom_form, sum_form, negated_form, joined_atoms, part_times, form_times}
use Rattle.ring_forms.specs.TableForms.{unary_form, binary_form, combined_form}
use Rattle.ring_forms.proofs.FormLemmas.{equal_is, same_numbers, numbers_same}
use Rattle.ring_forms.proofs.FormTotals.{form_total, equal_congruent}
use Rattle.ring_forms.proofs.Products.{Rising, joined_rising}

abbrev pub order : List ℕ → List ℕ → Ordering
order xs ys = slice_cmp nat_cmp xs ys

abbrev pub products_of : List Part → List (List ℕ)
products_of f = map (λ p. p.atoms) f

-- a product comes before all of a form
abbrev pub Before : List ℕ → List Part → Type 0
Before x f = AllByRecursion (λ y. order x y ≡ Less) (products_of f)

abbrev pub IsCleanPart : ℕ → Part → Type 0
IsCleanPart m p = Rising p.atoms × (0 < p.coefficient) × (p.coefficient < 2 ^ m)

abbrev pub Clean : ℕ → List Part → Type 0
Clean m [] = ⊤
Clean m (p ∷ ps) = IsCleanPart m p × Before p.atoms ps × Clean m ps

pub strictly_sorted : (m : ℕ) (f : List Part) → Clean m f → IsStrictlySortedBy (slice_cmp nat_cmp) (products_of f)
unfolding IsStrictlySortedBy
strictly_sorted m [] h = tt
strictly_sorted m (p ∷ ps) h = (h.1, strictly_sorted m ps h.2)

-- ---- small numbers are known by their class

pub one_number : (m a b : ℕ) → a < 2 ^ m → b < 2 ^ m → Congruent m (pos a) (pos b) → a ≡ b
one_number m a b h g c =
    sym (word-value (record { width = m; unsigned = true }) a h) ∙ same_word (record { width = m; unsigned = true }) (pos a) (pos b) c ∙ word-value (record { width = m; unsigned = true }) b g

pub small_residue : (m n : ℕ) → n < 2 ^ m → residue m (pos n) ≡ n
small_residue m n h = word-value (record { width = m; unsigned = true }) n h

pub zero_residue : (m : ℕ) → residue m (pos 0) ≡ 0
zero_residue m = let some = pow_pos m in small_residue m 0 (omega (arith, some))

above_zero : (n : ℕ) → (n == 0) ≡ false → 0 < n
above_zero n e = let no = eqb-false n 0 e in by n no
  where
    by : (k : ℕ) → (k ≡ 0 → ⊥) → 0 < k
    by zero f = absurd (f refl)
    by (suc k) f = omega arith

negative_above : (m c : ℕ) → 0 < c → c < 2 ^ m → 0 < residue m (pos 0 -ℤ pos c)
negative_above m c h g = by (residue m (pos 0 -ℤ pos c) == 0) refl
  where
    by : (t : Bool) → (residue m (pos 0 -ℤ pos c) == 0) ≡ t → 0 < residue m (pos 0 -ℤ pos c)
    by false e = above_zero (residue m (pos 0 -ℤ pos c)) e
    by true e =
        let z : residue m (pos 0 -ℤ pos c) ≡ 0 = eqb-true (residue m (pos 0 -ℤ pos c)) 0 e in
        let zero_is : Congruent m (pos 0) (pos 0 -ℤ pos c) = subst (λ n. Congruent m (pos n) (pos 0 -ℤ pos c)) z (residue_congruent m (pos 0 -ℤ pos c)) in
        let moved : Congruent m (pos 0 -ℤ (pos 0 -ℤ pos c)) (pos 0 -ℤ pos 0) = differences m (pos 0) (pos 0) (pos 0 -ℤ pos c) (pos 0) (same m (pos 0)) (turned m (pos 0) (pos 0 -ℤ pos c) zero_is) in
        let back : pos 0 -ℤ (pos 0 -ℤ pos c) ≡ pos c = omega (arith, ints) in
        let is : c ≡ 0 = one_number m c 0 g (omega (arith, h, g)) (subst (λ x. Congruent m x (pos 0)) back moved) in
        absurd (omega (arith, is, h))

-- ---- clean forms stay clean

module _ (m : ℕ) where
  part_of_clean : (atoms : List ℕ) (c : ℕ) (rest : List Part) → Rising atoms → c < 2 ^ m → Before atoms rest → Clean m rest → Clean m (part_of atoms c rest)
  part_of_clean atoms c rest r h b g = by (c == 0) refl
    where
      by : (t : Bool) → (c == 0) ≡ t → Clean m (cond t rest (record { atoms = atoms; coefficient = c } ∷ rest))
      by true e = g
      by false e = ((r, above_zero c e, h), b, g)

  part_of_before : (x atoms : List ℕ) (c : ℕ) (rest : List Part) → order x atoms ≡ Less → Before x rest → Before x (part_of atoms c rest)
  part_of_before x atoms c rest h g = by (c == 0)
    where
      by : (t : Bool) → Before x (cond t rest (record { atoms = atoms; coefficient = c } ∷ rest))
      by true = g
      by false = (h, g)

  with_part_before : (x : List ℕ) (p : Part) (f : List Part) → order x p.atoms ≡ Less → Before x f → Before x (with_part m p f)
  with_part_before x p [] h g = (h, tt)
  with_part_before x p (q ∷ qs) h g = by (slice_cmp nat_cmp p.atoms q.atoms) (with_part_before x p qs h g.1)
    where
      by : (o : Ordering) → Before x (with_part m p qs) → Before x (placed m p q qs (with_part m p qs) o)
      by Less later = (h, g)
      by Equal later = part_of_before x p.atoms (residue m (pos q.coefficient +ℤ pos p.coefficient)) qs h g.1
      by Greater later = (g.0, later)

  after : (x y : List ℕ) (f : List Part) → order x y ≡ Less → Before y f → Before x f
  after x y [] h g = tt
  after x y (p ∷ ps) h g = (nat_list_cmp_total.trans x y p.atoms h g.0, after x y ps h g.1)

  with_part_clean : (p : Part) (f : List Part) → IsCleanPart m p → Clean m f → Clean m (with_part m p f)
  with_part_clean p [] h g = (h, tt, tt)
  with_part_clean p (q ∷ qs) h g = by (slice_cmp nat_cmp p.atoms q.atoms) refl (with_part_clean p qs h g.2)
    where
      by : (o : Ordering) → slice_cmp nat_cmp p.atoms q.atoms ≡ o → Clean m (with_part m p qs) → Clean m (placed m p q qs (with_part m p qs) o)
      by Less e later = (h, (e, after p.atoms q.atoms qs e g.1), g)
      by Equal e later =
          part_of_clean p.atoms (residue m (pos q.coefficient +ℤ pos p.coefficient)) qs h.0 (residue-below m (pos q.coefficient +ℤ pos p.coefficient))
          (subst (λ x. Before x qs) (sym (equal_is p.atoms q.atoms e)) g.1) g.2
      by Greater e later =
          let less : order q.atoms p.atoms ≡ Less = nat_list_cmp_total.antisymm q.atoms p.atoms ∙ ap ordering_reverse e in
          (g.0, with_part_before q.atoms p qs less g.1, later)

  with_product_clean : (atoms : List ℕ) (c : ℕ) (f : List Part) → Rising atoms → c < 2 ^ m → Clean m f → Clean m (with_product m atoms c f)
  with_product_clean atoms c f r h g = by (c == 0) refl
    where
      by : (t : Bool) → (c == 0) ≡ t → Clean m (cond t f (with_part m (record { atoms = atoms; coefficient = c }) f))
      by true e = g
      by false e = with_part_clean (record { atoms = atoms; coefficient = c }) f (r, above_zero c e, h) g

  pub constant_clean : (z : ℤ) → Clean m (constant_form m z)
  constant_clean z = part_of_clean [] (residue m z) [] tt (residue-below m z) tt tt

  pub atom_clean : (k : ℕ) → 0 < m → Clean m (atom_form k)
  atom_clean k h = let some : 1 ≤ m = omega arith in let power = pow_mono some in (((tt, tt), omega arith, omega (arith, power)), tt, tt)

  sum_clean : (f g : List Part) → Clean m f → Clean m g → Clean m (sum_form m f g)
  sum_clean [] g h i = i
  sum_clean (p ∷ ps) g h i = sum_clean ps (with_part m p g) h.2 (with_part_clean p g h.0 i)

  negated_before : (x : List ℕ) (f : List Part) → Before x f → Before x (negated_form m f)
  negated_before x [] h = tt
  negated_before x (p ∷ ps) h = (h.0, negated_before x ps h.1)

  negated_clean : (f : List Part) → Clean m f → Clean m (negated_form m f)
  negated_clean [] h = tt
  negated_clean (p ∷ ps) h =
      ((h.0.0, negative_above m p.coefficient h.0.1 h.0.2, residue-below m (pos 0 -ℤ pos p.coefficient)), negated_before p.atoms ps h.1, negated_clean ps h.2)

  part_times_clean : (p : Part) (g made : List Part) → Clean m g → Clean m made → Clean m (part_times m p g made)
  part_times_clean p [] made i j = j
  part_times_clean p (q ∷ qs) made i j =
      part_times_clean p qs _ i.2
      (with_product_clean (joined_atoms p.atoms q.atoms) (residue m (pos p.coefficient *ℤ pos q.coefficient)) made (joined_rising p.atoms q.atoms i.0.0) (residue-below m (pos p.coefficient *ℤ pos q.coefficient)) j)

  form_times_clean : (f g made : List Part) → Clean m g → Clean m made → Clean m (form_times m f g made)
  form_times_clean [] g made i j = j
  form_times_clean (p ∷ ps) g made i j = form_times_clean ps g (part_times m p g made) i (part_times_clean p g made i j)

  unary_clean : (code : Code) (f : List Part) → Clean m f → Clean m (unary_form m code f)
  unary_clean Negate f h = negated_clean f h
  unary_clean BitNot f h = sum_clean (constant_form m (negsuc 0)) (negated_form m f) (constant_clean (negsuc 0)) (negated_clean f h)
  unary_clean _ f h = h

  binary_clean : (code : Code) (places : ℕ) (f g : List Part) → Clean m f → Clean m g → Clean m (binary_form m code places f g)
  binary_clean Minus places f g h i = sum_clean f (negated_form m g) h (negated_clean g i)
  binary_clean Mult places f g h i = form_times_clean f g [] i tt
  binary_clean Lshift places f g h i = form_times_clean f (constant_form m (pos (2 ^ places))) [] (constant_clean (pos (2 ^ places))) tt
  binary_clean _ places f g h i = sum_clean f g h i

  abbrev pub AreClean : List (List Part) → Type 0
  AreClean [] = ⊤
  AreClean (f ∷ fs) = Clean m f × AreClean fs

  pub combined_clean : (code : Code) (places : ℕ) (fs : List (List Part)) → AreClean fs → Clean m (combined_form m code places fs)
  combined_clean code places [] h = tt
  combined_clean code places (f ∷ []) h = unary_clean code f h.0
  combined_clean code places (f ∷ g ∷ []) h = binary_clean code places f g h.0 h.1.0
  combined_clean code places (f ∷ g ∷ k ∷ fs) h = tt

-- ---- coefficients

-- 1 at a product, 0 at the others
abbrev pub hit : List ℕ → List ℕ → ℤ
hit k q = cond (pointwise nat_eq k q) (pos 1) (pos 0)

-- the coefficient of a product in a form
abbrev pub at_key : List ℕ → List Part → ℤ
at_key k f = form_total (hit k) f

pub passed : (k : List ℕ) (p : Part) (x : ℤ) → pointwise nat_eq k p.atoms ≡ false → pos p.coefficient *ℤ hit k p.atoms +ℤ x ≡ x
passed k p x e = ap (λ t. pos p.coefficient *ℤ cond t (pos 1) (pos 0) +ℤ x) e ∙ nothing (pos p.coefficient)
  where
    nothing : (c : ℤ) → c *ℤ pos 0 +ℤ x ≡ x
    nothing c = omega (arith, ints)

pub met : (k : List ℕ) (p : Part) (x : ℤ) → pointwise nat_eq k p.atoms ≡ true → pos p.coefficient *ℤ hit k p.atoms +ℤ x ≡ pos p.coefficient +ℤ x
met k p x e = ap (λ t. pos p.coefficient *ℤ cond t (pos 1) (pos 0) +ℤ x) e ∙ itself (pos p.coefficient)
  where
    itself : (c : ℤ) → c *ℤ pos 1 +ℤ x ≡ c +ℤ x
    itself c = omega (arith, ints)

pub before_none : (k : List ℕ) (f : List Part) → Before k f → at_key k f ≡ pos 0
before_none k [] h = refl
before_none k (p ∷ ps) h = passed k p (at_key k ps) (texts_ties k p.atoms ∙ ap is_eq h.0) ∙ before_none k ps h.1

pub own : (k : List ℕ) (p : Part) (ps : List Part) → k ≡ p.atoms → Before p.atoms ps → at_key k (p ∷ ps) ≡ pos p.coefficient
own k p ps e h =
    met k p (at_key k ps) (texts_ties k p.atoms ∙ ap (λ x. is_eq (slice_cmp nat_cmp x p.atoms)) e ∙ tied p.atoms)
    ∙ ap (λ x. pos p.coefficient +ℤ x) (before_none k ps (subst (λ x. Before x ps) (sym e) h)) ∙ ending (pos p.coefficient)
  where
    ending : (x : ℤ) → x +ℤ pos 0 ≡ x
    ending x = omega (arith, ints)

    tied : (x : List ℕ) → is_eq (slice_cmp nat_cmp x x) ≡ true
    tied x = sym (texts_ties x x) ∙ numbers_same x x refl

module _ (m : ℕ) where
  alone : (k : List ℕ) (p : Part) (f : List Part) → Before k f → Congruent m (at_key k f) (pos p.coefficient) → IsCleanPart m p → ⊥
  alone k p f h c g =
      let z : Congruent m (pos 0) (pos p.coefficient) = subst (λ x. Congruent m x (pos p.coefficient)) (before_none k f h) c in
      let some = g.1 in
      let is : 0 ≡ p.coefficient = one_number m 0 p.coefficient (omega (arith, some, g.2)) g.2 z in
      omega (arith, is, some)

  rests : (k : List ℕ) (p q : Part) (ps qs : List Part) → p.atoms ≡ q.atoms → p.coefficient ≡ q.coefficient → Congruent m (at_key k (p ∷ ps)) (at_key k (q ∷ qs)) → Congruent m (at_key k ps) (at_key k qs)
  rests k p q ps qs e f c =
      let turned_head : Congruent m ((pos p.coefficient *ℤ hit k p.atoms +ℤ at_key k ps) -ℤ pos p.coefficient *ℤ hit k p.atoms) ((pos q.coefficient *ℤ hit k q.atoms +ℤ at_key k qs) -ℤ pos q.coefficient *ℤ hit k q.atoms)
      = differences m _ _ _ _ c (equal_congruent m _ _ (λ i. pos (f i) *ℤ hit k (e i))) in
      subst (Congruent m (at_key k ps)) (back (pos q.coefficient *ℤ hit k q.atoms) (at_key k qs))
      (subst (λ z. Congruent m z ((pos q.coefficient *ℤ hit k q.atoms +ℤ at_key k qs) -ℤ pos q.coefficient *ℤ hit k q.atoms)) (back (pos p.coefficient *ℤ hit k p.atoms) (at_key k ps)) turned_head)
    where
      back : (a b : ℤ) → (a +ℤ b) -ℤ a ≡ b
      back a b = omega (arith, ints)

  -- clean forms with the same coefficients are one
  pub one_form : (f g : List Part) → Clean m f → Clean m g → ((k : List ℕ) → Congruent m (at_key k f) (at_key k g)) → f ≡ g
  one_form [] [] h i c = refl
  one_form [] (q ∷ qs) h i c = absurd (alone q.atoms q [] tt (subst (Congruent m (pos 0)) (own q.atoms q qs refl i.1) (c q.atoms)) i.0)
  one_form (p ∷ ps) [] h i c = absurd (alone p.atoms p [] tt (turned m _ _ (subst (λ x. Congruent m x (pos 0)) (own p.atoms p ps refl h.1) (c p.atoms))) h.0)
  one_form (p ∷ ps) (q ∷ qs) h i c = by (order p.atoms q.atoms) refl (one_form ps qs h.2 i.2)
    where
      by : (o : Ordering) → order p.atoms q.atoms ≡ o → (((k : List ℕ) → Congruent m (at_key k ps) (at_key k qs)) → ps ≡ qs) → (p ∷ ps) ≡ (q ∷ qs)
      by Less e later =
          absurd (alone p.atoms p (q ∷ qs) (e, after m p.atoms q.atoms qs e i.1) (turned m _ _ (subst (λ x. Congruent m x (at_key p.atoms (q ∷ qs))) (own p.atoms p ps refl h.1) (c p.atoms))) h.0)
      by Greater e later =
          let less : order q.atoms p.atoms ≡ Less = nat_list_cmp_total.antisymm q.atoms p.atoms ∙ ap ordering_reverse e in
          absurd (alone q.atoms q (p ∷ ps) (less, after m q.atoms p.atoms ps less h.1) (subst (Congruent m (at_key q.atoms (p ∷ ps))) (own q.atoms q qs refl i.1) (c q.atoms)) i.0)
      by Equal e later =
          let atoms : p.atoms ≡ q.atoms = equal_is p.atoms q.atoms e in
          let here : Congruent m (pos p.coefficient) (pos q.coefficient)
          = subst (Congruent m (pos p.coefficient)) (own p.atoms q qs atoms i.1) (subst (λ x. Congruent m x (at_key p.atoms (q ∷ qs))) (own p.atoms p ps refl h.1) (c p.atoms)) in
          let coefficients : p.coefficient ≡ q.coefficient = one_number m p.coefficient q.coefficient h.0.2 i.0.2 here in
          let rest = later (λ k. rests k p q ps qs atoms coefficients (c k)) in
          λ j. record { atoms = atoms j; coefficient = coefficients j } ∷ rest j

  -- a product stands in a clean form exactly where its coefficient isn't 0
  pub stands : (k : List ℕ) (f : List Part) → Clean m f → is_member (pointwise nat_eq) (products_of f) k ≡ not (residue m (at_key k f) == 0)
  stands k [] h = sym (ap (λ n. not (n == 0)) (zero_residue m))
  stands k (p ∷ ps) h = by (pointwise nat_eq k p.atoms) refl (stands k ps h.2)
    where
      by : (t : Bool) → pointwise nat_eq k p.atoms ≡ t → list_any (pointwise nat_eq k) (products_of ps) ≡ not (residue m (at_key k ps) == 0)
          → (t || list_any (pointwise nat_eq k) (products_of ps)) ≡ not (residue m (at_key k (p ∷ ps)) == 0)
      by true e later =
          let some = h.0.1 in
          let is : residue m (at_key k (p ∷ ps)) ≡ p.coefficient = ap (residue m) (own k p ps (same_numbers k p.atoms e) h.1) ∙ small_residue m p.coefficient h.0.2 in
          sym (ap (λ n. not (n == 0)) is ∙ ap not (apart (p.coefficient == 0) refl some))
        where
          apart : (t : Bool) → (p.coefficient == 0) ≡ t → 0 < p.coefficient → t ≡ false
          apart true e some = absurd (let z = eqb-true p.coefficient 0 e in omega (arith, z, some))
          apart false e some = refl
      by false e later = later ∙ ap (λ x. not (residue m x == 0)) (sym (passed k p (at_key k ps) e))
