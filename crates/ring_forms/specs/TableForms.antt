-- How the code reads a term: its form goes by numbers of atoms in a table, to which it adds.
use Rattle.std.specs.Prelude.{ℕ, ◌≡◌, ◌^◌, if◌then◌else◌, Option, Some, None, List, [], ◌∷◌, pos, negsuc, unwrap_or}
use Rattle.pm_ops.specs.declared.code.Code.{Code}
use Rattle.pm_ops.specs.declared.code.Code.TheVariants.{Minus, Mult, Negate, BitNot, Lshift}
use Rattle.pm_wide.specs.Types.{Ty}
use Rattle.pm_term.specs.Trees.{Tree, name, constant, node, Trees, nil, cons, type_of}
use Rattle.ring_forms.specs.declared.form.Part.{Part}
use Rattle.ring_forms.specs.declared.atom.Atom.{Atom}
use Rattle.ring_forms.specs.declared.atom.Atom.TheVariants.{Name, Operation}
use Rattle.ring_forms.specs.declared.atom.AtomOperand.{AtomOperand}
use Rattle.ring_forms.specs.Atoms.{atom_number, with_new_atom}
use Rattle.ring_forms.specs.RingForms.{goes_by_parts, constant_places}
use Rattle.ring_forms.specs.Forms.{constant_form, atom_form, sum_form, negated_form, product_form, within_limits}

-- the form of an operation of the forms of its operands, before limits: `~x` is `-1 - x`, and a
-- shift by a constant a product
abbrev pub unary_form : ℕ → Code → List Part → List Part
unary_form m Negate f = negated_form m f
unary_form m BitNot f = sum_form m (constant_form m (negsuc 0)) (negated_form m f)
unary_form m _ f = f

abbrev pub binary_form : ℕ → Code → ℕ → List Part → List Part → List Part
binary_form m Minus places f g = sum_form m f (negated_form m g)
binary_form m Mult places f g = product_form m f g
binary_form m Lshift places f g = product_form m f (constant_form m (pos (2 ^ places)))
binary_form m _ places f g = sum_form m f g

abbrev pub combined_form : ℕ → Code → ℕ → List (List Part) → List Part
combined_form m code places (f ∷ []) = unary_form m code f
combined_form m code places (f ∷ g ∷ []) = binary_form m code places f g
combined_form m code places _ = []

-- a form within the limits, with the table
abbrev pub limited : List Part → List Atom → Option (List Part × List Atom)
limited f table = if within_limits f then Some (f, table) else None

abbrev pub combined : ℕ → Code → ℕ → Option (List (List Part) × List Atom) → Option (List Part × List Atom)
combined m code places None = None
combined m code places (Some r) = limited (combined_form m code places r.0) r.1

-- an atom with these operands
abbrev pub atomic : Code → Ty → Option (List AtomOperand × List Atom) → Option (List Part × List Atom)
atomic code ty None = None
atomic code ty (Some r) = Some (atom_form (atom_number r.1 (Operation code ty r.0)), with_new_atom r.1 (Operation code ty r.0))

-- what a first reading gave, and then the rest
abbrev pub put_first : {X : Type 0} → X → Option (List X × List Atom) → Option (List X × List Atom)
put_first x None = None
put_first x (Some r) = Some (x ∷ r.0, r.1)

abbrev pub and_forms : Option (List Part × List Atom) → (List Atom → Option (List (List Part) × List Atom)) → Option (List (List Part) × List Atom)
and_forms None rest = None
and_forms (Some r) rest = put_first r.0 (rest r.1)

abbrev pub and_operands : Ty → Option (List Part × List Atom) → (List Atom → Option (List AtomOperand × List Atom)) → Option (List AtomOperand × List Atom)
and_operands ty None rest = None
and_operands ty (Some r) rest = put_first (record { ty = ty; form = r.0 }) (rest r.1)

abbrev mutual
  -- the form of a term modulo 2 ^ m, over the atoms of a table and those that it adds; none where the
  -- form of any part, also of an atom's operand at its full width, is past the limits; a constant
  -- goes by its word
  pub ring_form : ℕ → Tree → List Atom → Option (List Part × List Atom)
  ring_form m (name version ty) table = Some (atom_form (atom_number table (Name version ty)), with_new_atom table (Name version ty))
  ring_form m (constant word) table = Some (constant_form m (pos word.bits), table)
  ring_form m (node code ty args) table =
      if goes_by_parts m code ty args
      then combined m code (unwrap_or (constant_places ty args) 0) (ring_forms m args table)
      else atomic code ty (operand_forms args table)

  -- the forms of terms modulo 2 ^ m
  pub ring_forms : ℕ → Trees → List Atom → Option (List (List Part) × List Atom)
  ring_forms m nil table = Some ([], table)
  ring_forms m (cons t ts) table = and_forms (ring_form m t table) (ring_forms m ts)

  -- their types and forms at full width
  pub operand_forms : Trees → List Atom → Option (List AtomOperand × List Atom)
  operand_forms nil table = Some ([], table)
  operand_forms (cons t ts) table = and_operands (type_of t) (ring_form (type_of t).width t table) (operand_forms ts)

-- the form of an operation
abbrev pub operation_form : ℕ → Code → Ty → Trees → List Atom → Option (List Part × List Atom)
operation_form m code ty args table = ring_form m (node code ty args) table

-- one type, and one form at full width where the second term is read over the atoms of the first
abbrev pub HaveOneForm : Option (List Part × List Atom) → (List Atom → Option (List Part × List Atom)) → Type 0
HaveOneForm None second = ⊥
HaveOneForm (Some r) second = (table : List Atom) × (second r.1 ≡ Some (r.0, table))

abbrev pub AreEqualOverTable : Tree → Tree → Type 0
AreEqualOverTable left right =
    (type_of left ≡ type_of right)
    × HaveOneForm (ring_form (type_of left).width left []) (ring_form (type_of right).width right)
