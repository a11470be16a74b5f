-- How the code reads the exact form of a term: as a form modulo 2 ^ 128, by the numbers of the atoms
-- met so far.
use Rattle.std.specs.Prelude.{ℕ, ◌-◌, ◌^◌, ◌==◌, nat_lt, Bool, ◌&&◌, ◌||◌, if◌then◌else◌, Option, Some, None, List, [], ◌∷◌, ◌++◌, length, ℤ}
use Rattle.std.specs.List.{list_all}
use Rattle.pm_ops.specs.declared.code.Code.{Code}
use Rattle.pm_wide.specs.Types.{Ty, value}
use Rattle.pm_term.specs.Trees.{Tree, name, constant, node, Trees, nil, cons, type_of}
use Rattle.ring_forms.specs.declared.form.Part.{Part}
use Rattle.ring_forms.specs.declared.atom.Atom.{Atom}
use Rattle.ring_forms.specs.declared.atom.Atom.TheVariants.{Name, Operation}
use Rattle.ring_forms.specs.declared.atom.AtomOperand.{AtomOperand}
use Rattle.ring_forms.specs.declared.exact.Reading.{Reading}
use Rattle.ring_forms.specs.Atoms.{atom_number, with_new_atom}
use Rattle.ring_forms.specs.ExactForms.{goes_exactly}
use Rattle.ring_forms.specs.Forms.{constant_form, atom_form, within_limits}
use Rattle.ring_forms.specs.declared.poly.Monomial.{Monomial}
use Rattle.ring_forms.specs.Polynomials.{in_rank_order, terms_of}
use Rattle.ring_forms.specs.TableForms.{combined_form, operand_forms}

-- a residue modulo 2 ^ 128 stands for a number of a size below 2 ^ 56
abbrev pub is_small : ℕ → Bool
is_small c = nat_lt c (2 ^ 56) || nat_lt (2 ^ 128 - 1 - c) (2 ^ 56 - 1)

abbrev pub is_exact : List Part → Bool
is_exact f = within_limits f && list_all (λ p. is_small p.coefficient) f

abbrev pub exactly : List Part → Reading → Option (List Part × Reading)
exactly f r = if is_exact f then Some (f, r) else None

-- a node, where its atom is new
abbrev pub with_node : ℕ → Tree → List Tree → List Tree
with_node number t nodes = if number == length nodes then nodes ++ t ∷ [] else nodes

-- the number of an atom, and what is met then
abbrev pub met : Atom → Tree → Reading → ℕ × Reading
met a t r = (atom_number r.atoms a, record { inner = r.inner; atoms = with_new_atom r.atoms a; nodes = with_node (atom_number r.atoms a) t r.nodes })

abbrev pub met_form : ℕ × Reading → Option (List Part × Reading)
met_form m = Some (atom_form m.0, m.1)

abbrev pub exact_combined : Code → Option (List (List Part) × Reading) → Option (List Part × Reading)
exact_combined code None = None
exact_combined code (Some r) = exactly (combined_form 128 code 0 r.0) r.1

abbrev pub exact_atom : Code → Ty → Tree → Reading → Option (List AtomOperand × List Atom) → Option (List Part × Reading)
exact_atom code ty t r None = None
exact_atom code ty t r (Some o) = met_form (met (Operation code ty o.0) t (record { inner = o.1; atoms = r.atoms; nodes = r.nodes }))

abbrev pub exact_first : List Part → Option (List (List Part) × Reading) → Option (List (List Part) × Reading)
exact_first f None = None
exact_first f (Some r) = Some (f ∷ r.0, r.1)

abbrev pub and_exacts : Option (List Part × Reading) → (Reading → Option (List (List Part) × Reading)) → Option (List (List Part) × Reading)
and_exacts None rest = None
and_exacts (Some r) rest = exact_first r.0 (rest r.1)

abbrev mutual
  pub exact_read : Tree → Reading → Option (List Part × Reading)
  exact_read (name version ty) r = met_form (met (Name version ty) (name version ty) r)
  exact_read (constant word) r = exactly (constant_form 128 (value word)) r
  exact_read (node code ty args) r =
      if goes_exactly code then exact_combined code (exact_reads args r) else exact_atom code ty (node code ty args) r (operand_forms args r.inner)

  pub exact_reads : Trees → Reading → Option (List (List Part) × Reading)
  exact_reads nil r = Some ([], r)
  exact_reads (cons t ts) r = and_exacts (exact_read t r) (exact_reads ts)

-- nothing met
abbrev pub blank : Reading
blank = record { inner = []; atoms = []; nodes = [] }

-- the terms of what is read
abbrev pub terms_read : Option (List Part × Reading) → Option (List (Monomial × ℤ))
terms_read None = None
terms_read (Some r) = Some (terms_of r.1.nodes (in_rank_order r.0))

-- the terms of the exact form of a term of a signed type, in their order
abbrev pub exact_terms : Tree → Option (List (Monomial × ℤ))
exact_terms t = if (type_of t).unsigned then None else terms_read (exact_read t blank)
