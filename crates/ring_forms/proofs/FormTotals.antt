-- The total of a form where each product counts some whole number, and what sums and products of
-- forms do to it modulo 2 ^ m.
use Rattle.std.proofs.Common.{◌≡◌, ℕ, ◌==◌, Bool, true, false, cond, List, [], ◌∷◌, refl, sym, ap, subst, ◌∙◌, arith}
use Rattle.std.specs.Prelude.{ℤ, pos, neg_ℤ, ◌+ℤ◌, ◌-ℤ◌, ◌*ℤ◌}
use Rattle.std.specs.Cmp.Lexicographic.{slice_cmp}
use Rattle.std.specs.Ordering.{nat_cmp}
use Rattle.std.specs.declared.cmp.Ordering.{Ordering}
use Rattle.std.specs.declared.cmp.Ordering.TheVariants.{Less, Equal, Greater}
use Rattle.std.proofs.lemmas.Int.{ints}
use borrow.Author.Tests.{eqb-true}
use Rattle.pm_wide.specs.Congruence.{Congruent}
use Rattle.pm_wide.specs.Residues.{residue}
use Rattle.pm_wide.proofs.Congruence.{same, joined, sums, times, products}
use Rattle.pm_wide.proofs.Residues.{residue_congruent}
use Rattle.pm_wide.proofs.Whole.{mul_comm, mul_assoc, add-mul, mul-add, neg-mul, one-mul}
use Rattle.ring_forms.specs.declared.form.Part.{Part}
use Rattle.ring_forms.specs.Forms.{part_of, placed, with_part, with_product, constant_form, atom_form, sum_form, negated_form, joined_atoms, part_times, form_times, product_form}
use Rattle.ring_forms.proofs.FormLemmas.{equal_is}

-- the sum of the parts' coefficients, each times what its product counts
abbrev pub part_total : (List ℕ → ℤ) → Part → ℤ
part_total f p = pos p.coefficient *ℤ f p.atoms

abbrev pub form_total : (List ℕ → ℤ) → List Part → ℤ
form_total f [] = pos 0
form_total f (p ∷ ps) = part_total f p +ℤ form_total f ps

pub equal_congruent : (m : ℕ) (a b : ℤ) → a ≡ b → Congruent m a b
equal_congruent m a b e = subst (Congruent m a) e (same m a)

-- congruent to one thing, which is another
to : (m : ℕ) (a b c : ℤ) → Congruent m a b → b ≡ c → Congruent m a c
to m a b c h e = subst (Congruent m a) e h

-- one thing is another, which is congruent
from : (m : ℕ) (a b c : ℤ) → a ≡ b → Congruent m b c → Congruent m a c
from m a b c e h = subst (λ x. Congruent m x c) (sym e) h

module _ (v : List ℕ → ℤ) (m : ℕ) where
  part_of_total : (atoms : List ℕ) (c : ℕ) (rest : List Part) → form_total v (part_of atoms c rest) ≡ pos c *ℤ v atoms +ℤ form_total v rest
  part_of_total atoms c rest = by (c == 0) refl
    where
      by : (t : Bool) → (c == 0) ≡ t → form_total v (cond t rest (record { atoms = atoms; coefficient = c } ∷ rest)) ≡ pos c *ℤ v atoms +ℤ form_total v rest
      by true e = let z : c ≡ 0 = eqb-true c 0 e in subst (λ n. form_total v rest ≡ pos n *ℤ v atoms +ℤ form_total v rest) (sym z) (omega (arith, ints))
      by false e = refl

  -- two coefficients of one product
  merged : (a b : ℕ) (x rest : ℤ) → Congruent m (pos (residue m (pos b +ℤ pos a)) *ℤ x +ℤ rest) (pos a *ℤ x +ℤ (pos b *ℤ x +ℤ rest))
  merged a b x rest =
      to m _ ((pos b +ℤ pos a) *ℤ x +ℤ rest) _ (sums m _ _ rest rest (times m _ _ x (residue_congruent m (pos b +ℤ pos a))) (same m rest))
      (omega (arith, ints, add-mul (pos b) (pos a) x))

  pub with_part_total : (p : Part) (f : List Part) → Congruent m (form_total v (with_part m p f)) (part_total v p +ℤ form_total v f)
  with_part_total p [] = same m (part_total v p +ℤ pos 0)
  with_part_total p (q ∷ qs) = by (slice_cmp nat_cmp p.atoms q.atoms) refl (with_part_total p qs)
    where
      by : (o : Ordering) → slice_cmp nat_cmp p.atoms q.atoms ≡ o → Congruent m (form_total v (with_part m p qs)) (part_total v p +ℤ form_total v qs)
          → Congruent m (form_total v (placed m p q qs (with_part m p qs) o)) (part_total v p +ℤ (part_total v q +ℤ form_total v qs))
      by Less e later = same m _
      by Equal e later =
          let one : v p.atoms ≡ v q.atoms = ap v (equal_is p.atoms q.atoms e) in
          from m _ _ _ (part_of_total p.atoms (residue m (pos q.coefficient +ℤ pos p.coefficient)) qs)
          (to m _ _ _ (merged p.coefficient q.coefficient (v p.atoms) (form_total v qs))
          (ap (λ x. pos p.coefficient *ℤ v p.atoms +ℤ (pos q.coefficient *ℤ x +ℤ form_total v qs)) one))
      by Greater e later =
          to m (part_total v q +ℤ form_total v (with_part m p qs)) (part_total v q +ℤ (part_total v p +ℤ form_total v qs)) _
          (sums m (part_total v q) (part_total v q) _ _ (same m (part_total v q)) later)
          (exchange (part_total v q) (part_total v p) (form_total v qs))
        where
          exchange : (a b c : ℤ) → a +ℤ (b +ℤ c) ≡ b +ℤ (a +ℤ c)
          exchange a b c = omega (arith, ints)

  pub with_product_total : (atoms : List ℕ) (c : ℕ) (f : List Part) → Congruent m (form_total v (with_product m atoms c f)) (pos c *ℤ v atoms +ℤ form_total v f)
  with_product_total atoms c f = by (c == 0) refl
    where
      by : (t : Bool) → (c == 0) ≡ t → Congruent m (form_total v (cond t f (with_part m (record { atoms = atoms; coefficient = c }) f))) (pos c *ℤ v atoms +ℤ form_total v f)
      by true e = let z : c ≡ 0 = eqb-true c 0 e in equal_congruent m _ _ (subst (λ n. form_total v f ≡ pos n *ℤ v atoms +ℤ form_total v f) (sym z) (omega (arith, ints)))
      by false e = with_part_total (record { atoms = atoms; coefficient = c }) f

  pub constant_total : (z : ℤ) → Congruent m (form_total v (constant_form m z)) (z *ℤ v [])
  constant_total z =
      from m _ (pos (residue m z) *ℤ v []) _ (part_of_total [] (residue m z) [] ∙ alone (pos (residue m z) *ℤ v []))
      (times m _ _ (v []) (residue_congruent m z))
    where
      alone : (x : ℤ) → x +ℤ pos 0 ≡ x
      alone x = omega (arith, ints)

  pub atom_total : (k : ℕ) → form_total v (atom_form k) ≡ v (k ∷ [])
  atom_total k = alone _ (v (k ∷ [])) (one-mul (v (k ∷ [])))
    where
      alone : (x y : ℤ) → x ≡ y → x +ℤ pos 0 ≡ y
      alone x y e = omega (arith, ints, e)

  regroup : (a b c : ℤ) → b +ℤ (a +ℤ c) ≡ (a +ℤ b) +ℤ c
  regroup a b c = omega (arith, ints)

  pub sum_total : (f g : List Part) → Congruent m (form_total v (sum_form m f g)) (form_total v f +ℤ form_total v g)
  sum_total [] g = equal_congruent m _ _ (zero_first (form_total v g))
    where
      zero_first : (x : ℤ) → x ≡ pos 0 +ℤ x
      zero_first x = omega (arith, ints)
  sum_total (p ∷ ps) g =
      to m _ (form_total v ps +ℤ (part_total v p +ℤ form_total v g)) _
      (joined m _ (form_total v ps +ℤ form_total v (with_part m p g)) _ (sum_total ps (with_part m p g)) (sums m _ _ _ _ (same m (form_total v ps)) (with_part_total p g)))
      (regroup (part_total v p) (form_total v ps) (form_total v g))

  negated_coefficient : (c : ℕ) (x : ℤ) → Congruent m (pos (residue m (pos 0 -ℤ pos c)) *ℤ x) (neg_ℤ (pos c *ℤ x))
  negated_coefficient c x =
      let e : pos 0 -ℤ pos c ≡ neg_ℤ (pos c) = omega (arith, ints) in
      to m _ ((pos 0 -ℤ pos c) *ℤ x) _ (times m _ _ x (residue_congruent m (pos 0 -ℤ pos c))) (ap (λ z. z *ℤ x) e ∙ neg-mul (pos c) x)

  pub negated_total : (f : List Part) → Congruent m (form_total v (negated_form m f)) (neg_ℤ (form_total v f))
  negated_total [] = same m (pos 0)
  negated_total (p ∷ ps) =
      to m _ (neg_ℤ (part_total v p) +ℤ neg_ℤ (form_total v ps)) _
      (sums m _ _ _ _ (negated_coefficient p.coefficient (v p.atoms)) (negated_total ps))
      (both (part_total v p) (form_total v ps))
    where
      both : (x y : ℤ) → neg_ℤ x +ℤ neg_ℤ y ≡ neg_ℤ (x +ℤ y)
      both x y = omega (arith, ints)

  -- the product of a part and another, put into a form
  one_product : (p q : Part) (made : List Part)
      → Congruent m (form_total v (with_product m (joined_atoms p.atoms q.atoms) (residue m (pos p.coefficient *ℤ pos q.coefficient)) made))
      (pos p.coefficient *ℤ (pos q.coefficient *ℤ v (joined_atoms p.atoms q.atoms)) +ℤ form_total v made)
  one_product p q made =
      let x = v (joined_atoms p.atoms q.atoms) in
      joined m _ _ _ (with_product_total (joined_atoms p.atoms q.atoms) (residue m (pos p.coefficient *ℤ pos q.coefficient)) made)
      (sums m _ _ _ _
      (to m _ ((pos p.coefficient *ℤ pos q.coefficient) *ℤ v (joined_atoms p.atoms q.atoms)) _
      (times m _ _ (v (joined_atoms p.atoms q.atoms)) (residue_congruent m (pos p.coefficient *ℤ pos q.coefficient)))
      (mul_assoc (pos p.coefficient) (pos q.coefficient) (v (joined_atoms p.atoms q.atoms))))
      (same m (form_total v made)))

  -- what a product times each product of a form counts
  abbrev pub times_form : List Part → List ℕ → ℤ
  times_form g atoms = form_total (λ q. v (joined_atoms atoms q)) g

  part_times_total : (p : Part) (g made : List Part) → Congruent m (form_total v (part_times m p g made)) (pos p.coefficient *ℤ times_form g p.atoms +ℤ form_total v made)
  part_times_total p [] made = equal_congruent m _ _ (nothing (pos p.coefficient) (form_total v made))
    where
      nothing : (x y : ℤ) → y ≡ x *ℤ pos 0 +ℤ y
      nothing x y = omega (arith, ints)
  part_times_total p (q ∷ qs) made =
      let next = with_product m (joined_atoms p.atoms q.atoms) (residue m (pos p.coefficient *ℤ pos q.coefficient)) made in
      to m _ (pos p.coefficient *ℤ times_form qs p.atoms +ℤ (pos p.coefficient *ℤ (pos q.coefficient *ℤ v (joined_atoms p.atoms q.atoms)) +ℤ form_total v made)) _
      (joined m _ _ _ (part_times_total p qs (with_product m (joined_atoms p.atoms q.atoms) (residue m (pos p.coefficient *ℤ pos q.coefficient)) made))
      (sums m _ _ _ _ (same m (pos p.coefficient *ℤ times_form qs p.atoms)) (one_product p q made)))
      (spread (pos p.coefficient) (pos q.coefficient *ℤ v (joined_atoms p.atoms q.atoms)) (times_form qs p.atoms) (form_total v made))
    where
      spread : (x y z w : ℤ) → x *ℤ z +ℤ (x *ℤ y +ℤ w) ≡ x *ℤ (y +ℤ z) +ℤ w
      spread x y z w = omega (arith, ints, mul-add x y z)

  form_times_total : (f g made : List Part) → Congruent m (form_total v (form_times m f g made)) (form_total (times_form g) f +ℤ form_total v made)
  form_times_total [] g made = equal_congruent m _ _ (nothing (form_total v made))
    where
      nothing : (y : ℤ) → y ≡ pos 0 +ℤ y
      nothing y = omega (arith, ints)
  form_times_total (p ∷ ps) g made =
      to m _ (form_total (times_form g) ps +ℤ (pos p.coefficient *ℤ times_form g p.atoms +ℤ form_total v made)) _
      (joined m _ _ _ (form_times_total ps g (part_times m p g made)) (sums m _ _ _ _ (same m (form_total (times_form g) ps)) (part_times_total p g made)))
      (regrouped (form_total (times_form g) ps) (pos p.coefficient *ℤ times_form g p.atoms) (form_total v made))
    where
      regrouped : (x y z : ℤ) → x +ℤ (y +ℤ z) ≡ (y +ℤ x) +ℤ z
      regrouped x y z = omega (arith, ints)

  pub product_total : (f g : List Part) → Congruent m (form_total v (product_form m f g)) (form_total (times_form g) f)
  product_total f g = to m _ _ _ (form_times_total f g []) (ending (form_total (times_form g) f))
    where
      ending : (x : ℤ) → x +ℤ pos 0 ≡ x
      ending x = omega (arith, ints)

-- ---- what products count

pub congruent_counts : (u v : List ℕ → ℤ) (m : ℕ) → ((p : List ℕ) → Congruent m (u p) (v p)) → (f : List Part) → Congruent m (form_total u f) (form_total v f)
congruent_counts u v m h [] = same m (pos 0)
congruent_counts u v m h (p ∷ ps) = sums m _ _ _ _ (products m _ _ _ _ (same m (pos p.coefficient)) (h p.atoms)) (congruent_counts u v m h ps)

pub scaled_count : (x : ℤ) (v : List ℕ → ℤ) (f : List Part) → form_total (λ p. x *ℤ v p) f ≡ x *ℤ form_total v f
scaled_count x v [] = omega (arith, ints)
scaled_count x v (p ∷ ps) =
    (λ i. turn (pos p.coefficient) x (v p.atoms) i +ℤ scaled_count x v ps i) ∙ sym (mul-add x (pos p.coefficient *ℤ v p.atoms) (form_total v ps))
  where
    turn : (a b c : ℤ) → a *ℤ (b *ℤ c) ≡ b *ℤ (a *ℤ c)
    turn a b c = sym (mul_assoc a b c) ∙ ap (λ z. z *ℤ c) (mul_comm a b) ∙ mul_assoc b a c
