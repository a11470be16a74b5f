-- Places in forms and among atoms.
use Rattle.std.specs.Prelude.{ℕ, suc, nat_le, Bool, false, if◌then◌else◌, Option, Some, None, List, [], ◌∷◌, ◌++◌, slice_get}
use Rattle.std.specs.Cmp.Lexicographic.{slice_cmp, pointwise}
use Rattle.std.specs.Prelude.{nat_eq}
use Rattle.std.specs.Ordering.{nat_cmp, is_gt}
use Rattle.ring_forms.specs.declared.form.Part.{Part}

-- how many parts come before that product of atoms
abbrev pub form_place : List ℕ → List Part → ℕ
form_place atoms [] = 0
form_place atoms (q ∷ qs) = if is_gt (slice_cmp nat_cmp atoms q.atoms) then suc (form_place atoms qs) else 0

abbrev pub is_product : List ℕ → Option Part → Bool
is_product atoms None = false
is_product atoms (Some q) = pointwise nat_eq q.atoms atoms

-- whether that product of atoms stands at a place
abbrev pub form_has : List ℕ → List Part → ℕ → Bool
form_has atoms f place = is_product atoms (slice_get f place)

-- how many atoms are less
abbrev pub atom_place : ℕ → List ℕ → ℕ
atom_place a [] = 0
atom_place a (b ∷ bs) = if nat_le a b then 0 else suc (atom_place a bs)

-- what stands before what a reading gave
abbrev pub prepended : {X T : Type 0} → List X → Option (List X × T) → Option (List X × T)
prepended xs None = None
prepended xs (Some r) = Some (xs ++ r.0, r.1)
