-- Forms: sums of products of atoms, which go by numbers, with coefficients modulo a power of two.
-- The parts of a form rise by their lists of atoms, no two have one list, and no coefficient is 0.
use Rattle.std.specs.Prelude.{ℕ, ◌==◌, nat_le, Bool, ◌&&◌, if◌then◌else◌, List, [], ◌∷◌, length, map, ℤ, pos, ◌+ℤ◌, ◌-ℤ◌, ◌*ℤ◌}
use Rattle.std.specs.Cmp.Lexicographic.{slice_cmp}
use Rattle.std.specs.List.{list_all}
use Rattle.std.specs.Ordering.{nat_cmp}
use Rattle.std.specs.declared.cmp.Ordering.{Ordering}
use Rattle.std.specs.declared.cmp.Ordering.TheVariants.{Less, Equal, Greater}
use Rattle.pm_wide.specs.Residues.{residue}
use Rattle.ring_forms.specs.declared.form.Part.{Part}

-- the part of that product of atoms with that coefficient, or none where the coefficient is 0
abbrev pub part_of : List ℕ → ℕ → List Part → List Part
part_of atoms coefficient rest = if coefficient == 0 then rest else (record { atoms = atoms; coefficient = coefficient } ∷ rest)

-- a part before, in or after the first of these
abbrev pub placed : ℕ → Part → Part → List Part → List Part → Ordering → List Part
placed m p q qs later Less = p ∷ q ∷ qs
placed m p q qs later Equal = part_of p.atoms (residue m (pos q.coefficient +ℤ pos p.coefficient)) qs
placed m p q qs later Greater = q ∷ later

-- a form with one part more, modulo 2 ^ m
abbrev pub with_part : ℕ → Part → List Part → List Part
with_part m p [] = p ∷ []
with_part m p (q ∷ qs) = placed m p q qs (with_part m p qs) (slice_cmp nat_cmp p.atoms q.atoms)

-- the same, unless its coefficient is 0
abbrev pub with_product : ℕ → List ℕ → ℕ → List Part → List Part
with_product m atoms coefficient f = if coefficient == 0 then f else with_part m (record { atoms = atoms; coefficient = coefficient }) f

-- a whole number
abbrev pub constant_form : ℕ → ℤ → List Part
constant_form m z = part_of [] (residue m z) []

-- an atom
abbrev pub atom_form : ℕ → List Part
atom_form number = record { atoms = number ∷ []; coefficient = 1 } ∷ []

-- a sum: the parts of the first, put into the second
abbrev pub sum_form : ℕ → List Part → List Part → List Part
sum_form m [] g = g
sum_form m (p ∷ ps) g = sum_form m ps (with_part m p g)

-- a negative
abbrev pub negated_part : ℕ → Part → Part
negated_part m p = record { atoms = p.atoms; coefficient = residue m (pos 0 -ℤ pos p.coefficient) }

abbrev pub negated_form : ℕ → List Part → List Part
negated_form m f = map (negated_part m) f

-- atoms with one more, before the first that isn't less
abbrev pub with_atom : ℕ → List ℕ → List ℕ
with_atom a [] = a ∷ []
with_atom a (b ∷ bs) = if nat_le a b then a ∷ b ∷ bs else b ∷ with_atom a bs

-- a product of products of atoms
abbrev pub joined_atoms : List ℕ → List ℕ → List ℕ
joined_atoms [] bs = bs
joined_atoms (a ∷ rest) bs = joined_atoms rest (with_atom a bs)

-- a product: each part of the first with each part of the second, put into what there is
abbrev pub part_times : ℕ → Part → List Part → List Part → List Part
part_times m p [] made = made
part_times m p (q ∷ qs) made = part_times m p qs (with_product m (joined_atoms p.atoms q.atoms) (residue m (pos p.coefficient *ℤ pos q.coefficient)) made)

abbrev pub form_times : ℕ → List Part → List Part → List Part → List Part
form_times m [] g made = made
form_times m (p ∷ ps) g made = form_times m ps g (part_times m p g made)

abbrev pub product_form : ℕ → List Part → List Part → List Part
product_form m f g = form_times m f g []

-- at most 64 parts, each of at most eight atoms
abbrev pub within_limits : List Part → Bool
within_limits f = nat_le (length f) 64 && list_all (λ p. nat_le (length p.atoms) 8) f
