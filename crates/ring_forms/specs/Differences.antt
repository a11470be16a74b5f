-- The form of one term, or the difference of the forms of two, compared with that of others: over
-- whole numbers, and modulo 2 ^ m. A difference has no limits of its own.
use Rattle.std.specs.Prelude.{ℕ, suc, ◌+◌, Bool, true, not, ◌&&◌, if◌then◌else◌, Option, Some, None, List, [], ◌∷◌, ◌++◌, ℤ, IsTrue}
use Rattle.std.specs.List.{list_all}
use Rattle.pm_wide.specs.Operations.{int_same}
use Rattle.pm_term.specs.Trees.{Tree, Trees, nil, cons, type_of, operations_of}
use Rattle.ring_forms.specs.ExactForms.{all_exactly, have_exact_parts}
use Rattle.ring_forms.specs.RingForms.{all_expanded, form_coefficient, products, same_form, have_forms, same_atom}
use Rattle.ring_forms.specs.Sums.{Sum, coefficient, negated}

-- of one sum itself, of two the first less the second
abbrev pub difference : List (Sum Tree) → Sum Tree
difference (f ∷ []) = f
difference (f ∷ g ∷ []) = f ++ negated g
difference _ = []

-- a number without atoms
abbrev pub number_alone : ℤ → Sum Tree
number_alone z = (z, []) ∷ []

-- atoms stand in one another less deep than there are operations
abbrev pub same_among : Trees → Trees → Tree → Tree → Bool
same_among ts us = same_atom (suc (operations_of ts + operations_of us))

-- ---- over whole numbers

-- two sums are one: each product has one coefficient in both
abbrev pub same_exactly : (Tree → Tree → Bool) → Sum Tree → Sum Tree → Bool
same_exactly same f g = list_all (λ p. int_same (coefficient same p f) (coefficient same p g)) (products f ++ products g)

-- these terms have types with a sign, and exact forms
abbrev pub all_signed : Trees → Bool
all_signed nil = true
all_signed (cons t ts) = not (type_of t).unsigned && all_signed ts

abbrev pub have_exact_forms : (Tree → Tree → Bool) → Trees → Bool
have_exact_forms same ts = all_signed ts && have_exact_parts same ts

abbrev pub exact_difference : Trees → Sum Tree
exact_difference ts = difference (all_exactly ts)

-- the exact form of one term, or the difference of those of two, is that of another one or two
abbrev pub AreOneExactly : Trees → Trees → Type 0
AreOneExactly ts us =
    IsTrue (have_exact_forms (same_among ts us) ts) × IsTrue (have_exact_forms (same_among ts us) us)
    × IsTrue (same_exactly (same_among ts us) (exact_difference ts) (exact_difference us))

-- the number that it is, where no product of atoms has a coefficient
abbrev pub exact_number_by : (Tree → Tree → Bool) → Sum Tree → Option ℤ
exact_number_by same f = if same_exactly same f (number_alone (coefficient same [] f)) then Some (coefficient same [] f) else None

abbrev pub exact_number : Trees → Option ℤ
exact_number ts = if have_exact_forms (same_among ts nil) ts then exact_number_by (same_among ts nil) (exact_difference ts) else None

-- ---- modulo 2 ^ m

abbrev pub ring_difference : ℕ → Trees → Sum Tree
ring_difference m ts = difference (all_expanded m ts)

-- the same of forms modulo 2 ^ m
abbrev pub AreOneModulo : ℕ → Trees → Trees → Type 0
AreOneModulo m ts us =
    IsTrue (have_forms (same_among ts us) m ts) × IsTrue (have_forms (same_among ts us) m us)
    × IsTrue (same_form (same_among ts us) m (ring_difference m ts) (ring_difference m us))

abbrev pub ring_number_by : (Tree → Tree → Bool) → ℕ → Sum Tree → Option ℕ
ring_number_by same m f = if same_form same m f (number_alone (coefficient same [] f)) then Some (form_coefficient same m [] f) else None

abbrev pub ring_number : ℕ → Trees → Option ℕ
ring_number m ts = if have_forms (same_among ts nil) m ts then ring_number_by (same_among ts nil) m (ring_difference m ts) else None
