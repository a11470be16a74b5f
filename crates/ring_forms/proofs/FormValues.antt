-- The value of a form where each atom has a whole number.
use Rattle.std.proofs.Common.{◌≡◌, ℕ, Bool, true, false, cond, List, [], ◌∷◌, refl, sym, ap, subst, ◌∙◌, arith}
use Rattle.std.specs.Prelude.{ℤ, pos, ◌+ℤ◌, ◌*ℤ◌, nat_le}
use Rattle.std.proofs.lemmas.Int.{ints}
use Rattle.pm_wide.specs.Congruence.{Congruent}
use Rattle.pm_wide.proofs.Whole.{add-mul, mul_comm, mul_assoc, one-mul, mul-one}
use Rattle.ring_forms.specs.declared.form.Part.{Part}
use Rattle.ring_forms.specs.Forms.{constant_form, atom_form, with_atom, joined_atoms, product_form}
use Rattle.ring_forms.proofs.FormTotals.{form_total, scaled_count, atom_total, constant_total, product_total}

-- the product of the numbers of these atoms
abbrev pub atoms_value : (ℕ → ℤ) → List ℕ → ℤ
atoms_value v [] = pos 1
atoms_value v (a ∷ rest) = v a *ℤ atoms_value v rest

abbrev pub form_value : (ℕ → ℤ) → List Part → ℤ
form_value v f = form_total (atoms_value v) f

module _ (v : ℕ → ℤ) (m : ℕ) where
  pub constant_value : (z : ℤ) → Congruent m (form_value v (constant_form m z)) z
  constant_value z = subst (Congruent m (form_value v (constant_form m z))) (mul-one z) (constant_total (atoms_value v) m z)

  pub atom_value_is : (k : ℕ) → form_value v (atom_form k) ≡ v k
  atom_value_is k = atom_total (atoms_value v) m k ∙ mul-one (v k)

  with_atom_value : (a : ℕ) (bs : List ℕ) → atoms_value v (with_atom a bs) ≡ v a *ℤ atoms_value v bs
  with_atom_value a [] = refl
  with_atom_value a (b ∷ bs) = by (nat_le a b) (with_atom_value a bs)
    where
      by : (t : Bool) → atoms_value v (with_atom a bs) ≡ v a *ℤ atoms_value v bs → atoms_value v (cond t (a ∷ b ∷ bs) (b ∷ with_atom a bs)) ≡ v a *ℤ (v b *ℤ atoms_value v bs)
      by true e = refl
      by false e = ap (λ x. v b *ℤ x) e ∙ sym (mul_assoc (v b) (v a) (atoms_value v bs)) ∙ ap (λ x. x *ℤ atoms_value v bs) (mul_comm (v b) (v a)) ∙ mul_assoc (v a) (v b) (atoms_value v bs)

  pub joined_value : (xs ys : List ℕ) → atoms_value v (joined_atoms xs ys) ≡ atoms_value v xs *ℤ atoms_value v ys
  joined_value [] ys = sym (one-mul (atoms_value v ys))
  joined_value (x ∷ xs) ys =
      joined_value xs (with_atom x ys) ∙ ap (λ z. atoms_value v xs *ℤ z) (with_atom_value x ys) ∙ sym (mul_assoc (atoms_value v xs) (v x) (atoms_value v ys))
      ∙ ap (λ z. z *ℤ atoms_value v ys) (mul_comm (atoms_value v xs) (v x))

  times_value : (g : List Part) (xs : List ℕ) → form_total (λ q. atoms_value v (joined_atoms xs q)) g ≡ atoms_value v xs *ℤ form_value v g
  times_value g xs = (λ i. form_total (λ q. joined_value xs q i) g) ∙ scaled_count (atoms_value v xs) (atoms_value v) g

  each_times : (f g : List Part) → form_total (λ p. atoms_value v p *ℤ form_value v g) f ≡ form_value v f *ℤ form_value v g
  each_times [] g = zero_times (form_value v g)
    where
      zero_times : (x : ℤ) → pos 0 ≡ pos 0 *ℤ x
      zero_times x = omega (arith, ints)
  each_times (p ∷ ps) g =
      (λ i. (sym (mul_assoc (pos p.coefficient) (atoms_value v p.atoms) (form_value v g))) i +ℤ each_times ps g i)
      ∙ sym (add-mul (pos p.coefficient *ℤ atoms_value v p.atoms) (form_value v ps) (form_value v g))

  pub product_value : (f g : List Part) → Congruent m (form_value v (product_form m f g)) (form_value v f *ℤ form_value v g)
  product_value f g =
      subst (Congruent m (form_value v (product_form m f g))) ((λ i. form_total (λ p. times_value g p i) f) ∙ each_times f g) (product_total (atoms_value v) m f g)
