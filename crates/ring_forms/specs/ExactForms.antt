-- The exact form of a term of a signed type: a map from products of atoms to whole numbers.
use Rattle.std.specs.Prelude.{ℕ, suc, ◌≡◌, ◌≢◌, ◌^◌, ◌==◌, nat_lt, nat_le, Bool, true, false, not, ◌&&◌, if◌then◌else◌, List, [], ◌∷◌, ◌++◌, length, map, ℤ, pos, slice_get, Option, Some, None, ⊤, ◌≤◌}
use Rattle.std.specs.Cmp.Lexicographic.{slice_cmp}
use Rattle.std.specs.Int.RustNames.{unsigned_abs}
use Rattle.std.specs.List.{list_all, list_any, filter, AllByRecursion}
use Rattle.std.specs.List.Sorted.{IsStrictlySortedBy}
use Rattle.std.specs.Ordering.{nat_cmp}
use Rattle.std.specs.Set.{distinct_count}
use Rattle.pm_ops.specs.declared.code.Code.{Code}
use Rattle.pm_ops.specs.declared.code.Code.TheVariants.{Plus, Minus, Mult, Negate, BitNot}
use Rattle.pm_wide.specs.Types.{value}
use Rattle.pm_term.specs.Trees.{Tree, name, constant, node, Trees, nil, cons, type_of, operations}
use Rattle.ring_forms.specs.declared.poly.Atom.{Atom}
use Rattle.ring_forms.specs.declared.poly.Monomial.{Monomial}
use Rattle.ring_forms.specs.RingForms.{combined_sum, atom, products, have_full_forms, same_atom}
use Rattle.ring_forms.specs.Sums.{Sum, same_product, coefficient}

-- whether the exact form of an operation is made of the forms of its operands
abbrev pub goes_exactly : Code → Bool
goes_exactly Plus = true
goes_exactly Minus = true
goes_exactly Mult = true
goes_exactly Negate = true
goes_exactly BitNot = true
goes_exactly _ = false

abbrev mutual
  -- a term multiplied out over whole numbers: names and all other operations are atoms
  pub exactly_expanded : Tree → Sum Tree
  exactly_expanded (name version ty) = atom (name version ty)
  exactly_expanded (constant word) = (value word, []) ∷ []
  exactly_expanded (node code ty args) = if goes_exactly code then combined_sum code 0 (all_exactly args) else atom (node code ty args)

  pub all_exactly : Trees → List (Sum Tree)
  all_exactly nil = []
  all_exactly (cons t ts) = exactly_expanded t ∷ all_exactly ts

-- ---- limits

-- the products whose coefficient isn't 0
abbrev pub exact_monomials : (Tree → Tree → Bool) → Sum Tree → List (List Tree)
exact_monomials same f = filter (λ p. not (unsigned_abs (coefficient same p f) == 0)) (products f)

-- at most 64 of them, each of at most eight factors and with a coefficient of a size below 2 ^ 56
abbrev pub is_exactly_within : (Tree → Tree → Bool) → Sum Tree → Bool
is_exactly_within same f =
    nat_le (distinct_count (same_product same) (exact_monomials same f)) 64 && list_all (λ p. nat_le (length p) 8) (exact_monomials same f)
    && list_all (λ p. nat_lt (unsigned_abs (coefficient same p f)) (2 ^ 56)) (products f)

abbrev mutual
  -- a term has an exact form where each of its parts is within the limits, and each operand of an
  -- atom has a ring form at its full width
  pub has_exact_parts : (Tree → Tree → Bool) → Tree → Bool
  has_exact_parts same (name version ty) = true
  has_exact_parts same (constant word) = is_exactly_within same (exactly_expanded (constant word))
  has_exact_parts same (node code ty args) =
      if goes_exactly code then is_exactly_within same (exactly_expanded (node code ty args)) && have_exact_parts same args else have_full_forms same args

  pub have_exact_parts : (Tree → Tree → Bool) → Trees → Bool
  have_exact_parts same nil = true
  have_exact_parts same (cons t ts) = has_exact_parts same t && have_exact_parts same ts

-- atoms stand in one another less deep than there are operations
abbrev pub same_in : Tree → Tree → Tree → Bool
same_in t = same_atom (suc (operations t))

-- the type has a sign, and each part is within the limits
abbrev pub has_exact_form : Tree → Bool
has_exact_form t = not (type_of t).unsigned && has_exact_parts (same_in t) t

-- ---- numbers of atoms

abbrev mutual
  -- the atoms of a term from left to right, each as often as it stands there
  pub atoms_in : Tree → List Tree
  atoms_in (name version ty) = name version ty ∷ []
  atoms_in (constant word) = []
  atoms_in (node code ty args) = if goes_exactly code then atoms_of args else node code ty args ∷ []

  pub atoms_of : Trees → List Tree
  atoms_of nil = []
  atoms_of (cons t ts) = atoms_in t ++ atoms_of ts

-- atoms met before, and then each further one that isn't the same as one met
abbrev pub with_met : (Tree → Tree → Bool) → List Tree → List Tree → List Tree
with_met same met [] = met
with_met same met (a ∷ rest) = with_met same (if list_any (λ b. same b a) met then met else met ++ a ∷ []) rest

-- the atoms of a term, each once, as they are first met
abbrev pub met_atoms : Tree → List Tree
met_atoms t = with_met (same_in t) [] (atoms_in t)

-- the number of an atom: the place of the first that is the same
abbrev pub place_in : (Tree → Tree → Bool) → List Tree → Tree → ℕ
place_in same [] a = 0
place_in same (b ∷ bs) a = if same b a then 0 else suc (place_in same bs a)

-- a term multiplied out, by the numbers of its atoms
abbrev pub by_numbers : Tree → Sum ℕ
by_numbers t = map (λ e. (e.0, map (place_in (same_in t) (met_atoms t)) e.1)) (exactly_expanded t)

-- ---- the polynomial

-- an atom's number with how often it stands in a row
abbrev pub with_power : ℕ → List (ℕ × ℕ) → List (ℕ × ℕ)
with_power a [] = (a, 1) ∷ []
with_power a (r ∷ rs) = if r.0 == a then (a, suc r.1) ∷ rs else ((a, 1) ∷ r ∷ rs)

-- the powers of a product whose numbers rise
abbrev pub powers : List ℕ → List (ℕ × ℕ)
powers [] = []
powers (a ∷ rest) = with_power a (powers rest)

abbrev pub in_a_row : List (ℕ × ℕ) → List ℕ
in_a_row [] = []
in_a_row (r ∷ rs) = r.0 ∷ r.1 ∷ in_a_row rs

-- what a product goes by in the order of monomials: its degree, and then the numbers of its atoms,
-- each with its power
abbrev pub rank : List ℕ → List ℕ
rank p = length p ∷ in_a_row (powers p)

abbrev pub factor_at : Option Tree → ℕ → List (Atom × ℕ) → List (Atom × ℕ)
factor_at None power rest = rest
factor_at (Some t) power rest = (record { node = t }, power) ∷ rest

-- the atoms of a product with their powers
abbrev pub factors : List Tree → List (ℕ × ℕ) → List (Atom × ℕ)
factors met [] = []
factors met (r ∷ rs) = factor_at (slice_get met r.0) r.1 (factors met rs)

abbrev pub term_at : List Tree → ℤ × List ℕ → Monomial × ℤ
term_at met e = (record { factors = factors met (powers e.1) }, e.0)

-- numbers that rise, each perhaps several times
abbrev pub Rises : List ℕ → Type 0
Rises [] = ⊤
Rises (x ∷ xs) = AllByRecursion (λ y. x ≤ y) xs × Rises xs

-- the terms of the exact form: products of atoms that go by their numbers in rising order, each with
-- its coefficient, which isn't 0; the terms strictly rise by degree, atoms and powers
pub record IsExactForm (t : Tree) (terms : List (Monomial × ℤ)) : Type 0 where
  pub entries : Sum ℕ
  pub listed : terms ≡ map (term_at (met_atoms t)) entries
  pub rising : AllByRecursion (λ e. Rises e.1) entries
  pub nonzero : AllByRecursion (λ e. e.0 ≢ pos 0) entries
  pub ordered : IsStrictlySortedBy (slice_cmp nat_cmp) (map (λ e. rank e.1) entries)
  pub coefficients : (p : List ℕ) → coefficient (λ a b. a == b) p entries ≡ coefficient (λ a b. a == b) p (by_numbers t)
