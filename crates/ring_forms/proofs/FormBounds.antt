-- Which numbers stand in forms, and that they alone decide their values.
use Rattle.std.proofs.Common.{◌≡◌, ℕ, ◌≤◌, ◌<◌, ◌==◌, ◌^◌, Bool, true, false, cond, List, [], ◌∷◌, refl, ap, arith}
use Rattle.std.specs.Prelude.{ℤ, pos, negsuc, ◌+ℤ◌, ◌*ℤ◌, nat_le, ⊤, map}
use Rattle.std.specs.Cmp.Lexicographic.{slice_cmp}
use Rattle.std.specs.Ordering.{nat_cmp}
use Rattle.std.specs.declared.cmp.Ordering.{Ordering}
use Rattle.std.specs.declared.cmp.Ordering.TheVariants.{Less, Equal, Greater}
use Rattle.pm_ops.specs.declared.code.Code.{Code}
use Rattle.pm_ops.specs.declared.code.Code.TheVariants.{Minus, Mult, Negate, BitNot, Lshift}
use Rattle.pm_wide.specs.Operations.{operation_value}
use Rattle.pm_wide.specs.Residues.{residue}
use Rattle.pm_wide.specs.Types.{Ty, Word, value, word}
use Rattle.ring_forms.specs.declared.atom.Atom.{Atom}
use Rattle.ring_forms.specs.declared.atom.Atom.TheVariants.{Name, Operation}
use Rattle.ring_forms.specs.declared.atom.AtomOperand.{AtomOperand}
use Rattle.ring_forms.specs.declared.form.Part.{Part}
use Rattle.ring_forms.specs.Forms.{part_of, placed, with_part, with_product, constant_form, sum_form, negated_form, with_atom, joined_atoms, part_times, form_times}
use Rattle.ring_forms.specs.PolynomialValues.{value_or_zero}
use Rattle.ring_forms.specs.TableForms.{unary_form, binary_form}
use Rattle.ring_forms.proofs.FormValues.{atoms_value, form_value}

-- ---- numbers below n

abbrev pub AtomsBelow : ℕ → List ℕ → Type 0
AtomsBelow n [] = ⊤
AtomsBelow n (a ∷ rest) = (a < n) × AtomsBelow n rest

abbrev pub FormBelow : ℕ → List Part → Type 0
FormBelow n [] = ⊤
FormBelow n (p ∷ ps) = AtomsBelow n p.atoms × FormBelow n ps

abbrev pub OperandsBelow : ℕ → List AtomOperand → Type 0
OperandsBelow n [] = ⊤
OperandsBelow n (o ∷ os) = FormBelow n o.form × OperandsBelow n os

abbrev pub AtomBelow : ℕ → Atom → Type 0
AtomBelow n (Name version ty) = ⊤
AtomBelow n (Operation code ty operands) = OperandsBelow n operands

module _ (n k : ℕ) (h : n ≤ k) where
  more_atoms : (xs : List ℕ) → AtomsBelow n xs → AtomsBelow k xs
  more_atoms [] b = tt
  more_atoms (x ∷ xs) b = (let c = b.0 in omega arith, more_atoms xs b.1)

  pub more_form : (f : List Part) → FormBelow n f → FormBelow k f
  more_form [] b = tt
  more_form (p ∷ ps) b = (more_atoms p.atoms b.0, more_form ps b.1)

  pub more_operands : (os : List AtomOperand) → OperandsBelow n os → OperandsBelow k os
  more_operands [] b = tt
  more_operands (o ∷ os) b = (more_form o.form b.0, more_operands os b.1)

module _ (n m : ℕ) where
  part_of_below : (atoms : List ℕ) (c : ℕ) (rest : List Part) → AtomsBelow n atoms → FormBelow n rest → FormBelow n (part_of atoms c rest)
  part_of_below atoms c rest h g = by (c == 0)
    where
      by : (t : Bool) → FormBelow n (cond t rest (record { atoms = atoms; coefficient = c } ∷ rest))
      by true = g
      by false = (h, g)

  with_part_below : (p : Part) (f : List Part) → AtomsBelow n p.atoms → FormBelow n f → FormBelow n (with_part m p f)
  with_part_below p [] h g = (h, tt)
  with_part_below p (q ∷ qs) h g = by (slice_cmp nat_cmp p.atoms q.atoms) (with_part_below p qs h g.1)
    where
      by : (o : Ordering) → FormBelow n (with_part m p qs) → FormBelow n (placed m p q qs (with_part m p qs) o)
      by Less later = (h, g)
      by Equal later = part_of_below p.atoms (residue m (pos q.coefficient +ℤ pos p.coefficient)) qs h g.1
      by Greater later = (g.0, later)

  with_product_below : (atoms : List ℕ) (c : ℕ) (f : List Part) → AtomsBelow n atoms → FormBelow n f → FormBelow n (with_product m atoms c f)
  with_product_below atoms c f h g = by (c == 0)
    where
      by : (t : Bool) → FormBelow n (cond t f (with_part m (record { atoms = atoms; coefficient = c }) f))
      by true = g
      by false = with_part_below (record { atoms = atoms; coefficient = c }) f h g

  pub constant_below : (z : ℤ) → FormBelow n (constant_form m z)
  constant_below z = part_of_below [] (residue m z) [] tt tt

  sum_below : (f g : List Part) → FormBelow n f → FormBelow n g → FormBelow n (sum_form m f g)
  sum_below [] g h i = i
  sum_below (p ∷ ps) g h i = sum_below ps (with_part m p g) h.1 (with_part_below p g h.0 i)

  negated_below : (f : List Part) → FormBelow n f → FormBelow n (negated_form m f)
  negated_below [] h = tt
  negated_below (p ∷ ps) h = (h.0, negated_below ps h.1)

  with_atom_below : (a : ℕ) (bs : List ℕ) → a < n → AtomsBelow n bs → AtomsBelow n (with_atom a bs)
  with_atom_below a [] h g = (h, tt)
  with_atom_below a (b ∷ bs) h g = by (nat_le a b) (with_atom_below a bs h g.1)
    where
      by : (t : Bool) → AtomsBelow n (with_atom a bs) → AtomsBelow n (cond t (a ∷ b ∷ bs) (b ∷ with_atom a bs))
      by true later = (h, g)
      by false later = (g.0, later)

  joined_below : (xs ys : List ℕ) → AtomsBelow n xs → AtomsBelow n ys → AtomsBelow n (joined_atoms xs ys)
  joined_below [] ys h g = g
  joined_below (x ∷ xs) ys h g = joined_below xs (with_atom x ys) h.1 (with_atom_below x ys h.0 g)

  part_times_below : (p : Part) (g made : List Part) → AtomsBelow n p.atoms → FormBelow n g → FormBelow n made → FormBelow n (part_times m p g made)
  part_times_below p [] made h i j = j
  part_times_below p (q ∷ qs) made h i j =
      part_times_below p qs _ h i.1 (with_product_below (joined_atoms p.atoms q.atoms) (residue m (pos p.coefficient *ℤ pos q.coefficient)) made (joined_below p.atoms q.atoms h i.0) j)

  form_times_below : (f g made : List Part) → FormBelow n f → FormBelow n g → FormBelow n made → FormBelow n (form_times m f g made)
  form_times_below [] g made h i j = j
  form_times_below (p ∷ ps) g made h i j = form_times_below ps g (part_times m p g made) h.1 i (part_times_below p g made h.0 i j)

  pub unary_below : (code : Code) (f : List Part) → FormBelow n f → FormBelow n (unary_form m code f)
  unary_below Negate f h = negated_below f h
  unary_below BitNot f h = sum_below (constant_form m (negsuc 0)) (negated_form m f) (constant_below (negsuc 0)) (negated_below f h)
  unary_below _ f h = h

  pub binary_below : (code : Code) (places : ℕ) (f g : List Part) → FormBelow n f → FormBelow n g → FormBelow n (binary_form m code places f g)
  binary_below Minus places f g h i = sum_below f (negated_form m g) h (negated_below g i)
  binary_below Mult places f g h i = form_times_below f g [] h i tt
  binary_below Lshift places f g h i = form_times_below f (constant_form m (pos (2 ^ places))) [] h (constant_below (pos (2 ^ places))) tt
  binary_below _ places f g h i = sum_below f g h i

-- ---- values of atoms

abbrev pub operand_words : (ℕ → ℤ) → List AtomOperand → List Word
operand_words v operands = map (λ o. word o.ty (form_value v o.form)) operands

-- the value of an atom on the words of its operands' forms, or 0 where it has none
abbrev pub atom_value : (ℕ → Ty → Word) → (ℕ → ℤ) → Atom → ℤ
atom_value words v (Name version ty) = value (words version ty)
atom_value words v (Operation code ty operands) = value_or_zero (operation_value code ty (operand_words v operands))

module _ (v u : ℕ → ℤ) (n : ℕ) (agree : (k : ℕ) → k < n → v k ≡ u k) where
  atoms_agree : (xs : List ℕ) → AtomsBelow n xs → atoms_value v xs ≡ atoms_value u xs
  atoms_agree [] h = refl
  atoms_agree (x ∷ xs) h = let e = agree x h.0 in let f = atoms_agree xs h.1 in λ i. e i *ℤ f i

  form_agree : (f : List Part) → FormBelow n f → form_value v f ≡ form_value u f
  form_agree [] h = refl
  form_agree (p ∷ ps) h = let e = atoms_agree p.atoms h.0 in let f = form_agree ps h.1 in λ i. pos p.coefficient *ℤ e i +ℤ f i

  operands_agree : (os : List AtomOperand) → OperandsBelow n os → operand_words v os ≡ operand_words u os
  operands_agree [] h = refl
  operands_agree (o ∷ os) h = let e = form_agree o.form h.0 in let f = operands_agree os h.1 in λ i. word o.ty (e i) ∷ f i

  pub atom_agrees : (words : ℕ → Ty → Word) (a : Atom) → AtomBelow n a → atom_value words v a ≡ atom_value words u a
  atom_agrees words (Name version ty) h = refl
  atom_agrees words (Operation code ty os) h = ap (λ ws. value_or_zero (operation_value code ty ws)) (operands_agree os h)
