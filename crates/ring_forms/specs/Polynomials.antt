-- How the code makes a polynomial of a form: powers stand still at the end of a usize, and a power is
-- kept as a byte.
use Rattle.std.specs.Prelude.{ℕ, suc, ◌+◌, ◌-◌, ◌^◌, ◌==◌, nat_lt, min, if◌then◌else◌, Option, Some, None, List, [], ◌∷◌, length, map, slice_get, ℤ, pos, neg_ℤ}
use Rattle.std.specs.Cmp.Lexicographic.{slice_cmp}
use Rattle.std.specs.Ordering.{nat_cmp, is_gt}
use Rattle.pm_term.specs.Trees.{Tree}
use Rattle.ring_forms.specs.declared.form.Part.{Part}
use Rattle.ring_forms.specs.declared.poly.Atom.{Atom}
use Rattle.ring_forms.specs.declared.poly.Monomial.{Monomial}
use Rattle.ring_forms.specs.declared.poly.Run.{Run}

-- one factor more in front
abbrev pub with_stopped : ℕ → List Run → List Run
with_stopped a [] = record { atom = a; power = 1 } ∷ []
with_stopped a (r ∷ rs) = if r.atom == a then record { atom = a; power = min (r.power + 1) (2 ^ 64 - 1) } ∷ rs else (record { atom = a; power = 1 } ∷ r ∷ rs)

abbrev pub stopped_runs : List ℕ → List Run
stopped_runs [] = []
stopped_runs (a ∷ rest) = with_stopped a (stopped_runs rest)

abbrev pub flat : List Run → List ℕ
flat [] = []
flat (r ∷ rs) = r.atom ∷ r.power ∷ flat rs

abbrev pub stopped_rank : List ℕ → List ℕ
stopped_rank p = length p ∷ flat (stopped_runs p)

-- how many parts come before that rank
abbrev pub ranked_place : List ℕ → List Part → ℕ
ranked_place r [] = 0
ranked_place r (q ∷ qs) = if is_gt (slice_cmp nat_cmp r (stopped_rank q.atoms)) then suc (ranked_place r qs) else 0

-- parts with one more, at its place
abbrev pub ranked_in : Part → List Part → List Part
ranked_in p [] = p ∷ []
ranked_in p (q ∷ qs) = if is_gt (slice_cmp nat_cmp (stopped_rank p.atoms) (stopped_rank q.atoms)) then q ∷ ranked_in p qs else p ∷ q ∷ qs

abbrev pub in_rank_order : List Part → List Part
in_rank_order [] = []
in_rank_order (p ∷ ps) = ranked_in p (in_rank_order ps)

-- the whole number of a small size that a residue modulo 2 ^ 128 stands for
abbrev pub whole : ℕ → ℤ
whole c = if nat_lt c (2 ^ 63) then pos c else (if nat_lt (2 ^ 128 - c) (2 ^ 63) then neg_ℤ (pos (2 ^ 128 - c)) else pos 0)

-- an atom with its power, where it has a node
abbrev pub with_factor : Option Tree → ℕ → List (Atom × ℕ) → List (Atom × ℕ)
with_factor None power rest = rest
with_factor (Some t) power rest = (record { node = t }, min power 255) ∷ rest

abbrev pub factors_of_runs : List Tree → List Run → List (Atom × ℕ)
factors_of_runs nodes [] = []
factors_of_runs nodes (r ∷ rs) = with_factor (slice_get nodes r.atom) r.power (factors_of_runs nodes rs)

abbrev pub term_of_part : List Tree → Part → Monomial × ℤ
term_of_part nodes p = (record { factors = factors_of_runs nodes (stopped_runs p.atoms) }, whole p.coefficient)

abbrev pub terms_of : List Tree → List Part → List (Monomial × ℤ)
terms_of nodes f = map (term_of_part nodes) f
