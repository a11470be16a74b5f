-- Atoms: names, and operations that no form goes into. An atom knows its operands by their types
-- and forms alone, and a table gives each its number.
use Rattle.std.specs.Prelude.{ℕ, suc, ◌==◌, nat_eq, bytes_eq, Bool, false, ◌&&◌, if◌then◌else◌, List, [], ◌∷◌}
use Rattle.std.specs.Cmp.Lexicographic.{pointwise}
use Rattle.pm_ops.specs.Names.{code_name}
use Rattle.pm_wide.specs.Types.{same_type}
use Rattle.ring_forms.specs.declared.form.Part.{Part}
use Rattle.ring_forms.specs.declared.atom.Atom.{Atom}
use Rattle.ring_forms.specs.declared.atom.Atom.TheVariants.{Name, Operation}
use Rattle.ring_forms.specs.declared.atom.AtomOperand.{AtomOperand}

abbrev pub same_part : Part → Part → Bool
same_part p q = pointwise nat_eq p.atoms q.atoms && (p.coefficient == q.coefficient)

abbrev pub same_parts : List Part → List Part → Bool
same_parts f g = pointwise same_part f g

-- operands of one type and form
abbrev pub same_entry_operand : AtomOperand → AtomOperand → Bool
same_entry_operand a b = same_type a.ty b.ty && same_parts a.form b.form

-- the same name, or one code and type with the same operands
abbrev pub same_entry : Atom → Atom → Bool
same_entry (Name v s) (Name w t) = (v == w) && same_type s t
same_entry (Operation c s xs) (Operation d t ys) = bytes_eq (code_name c) (code_name d) && same_type s t && pointwise same_entry_operand xs ys
same_entry (Name v s) (Operation d t ys) = false
same_entry (Operation c s xs) (Name w t) = false

-- the number of an atom: its place in the table, or the next one
abbrev pub atom_number : List Atom → Atom → ℕ
atom_number [] a = 0
atom_number (b ∷ bs) a = if same_entry b a then 0 else suc (atom_number bs a)

-- the table with the atom
abbrev pub with_new_atom : List Atom → Atom → List Atom
with_new_atom [] a = a ∷ []
with_new_atom (b ∷ bs) a = if same_entry b a then b ∷ bs else b ∷ with_new_atom bs a
