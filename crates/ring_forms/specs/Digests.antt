-- Digests of atoms: equal atoms have one, so that a table tells by it where to look for an atom.
use Rattle.std.specs.Prelude.{ℕ, ◌≡◌, ◌+◌, ◌*◌, ◌%◌, Some, List, [], ◌∷◌, length, drop, nat_eq, unwrap_or}
use Rattle.std.specs.HashMap.{HashMap, get}
use Rattle.std.specs.declared.hash.FoldHasher.{FoldHasher}
use Rattle.std.specs.declared.hash.BuildHasherDefault.{BuildHasherDefault}
use Rattle.ring_forms.specs.declared.form.Part.{Part}
use Rattle.ring_forms.specs.declared.atom.Atom.{Atom}
use Rattle.ring_forms.specs.declared.atom.Atom.TheVariants.{Name, Operation}
use Rattle.ring_forms.specs.declared.atom.AtomOperand.{AtomOperand}
use Rattle.ring_forms.specs.declared.table.AtomTable.TheInside.{Inside}
use Rattle.ring_forms.specs.Atoms.{atom_number}

-- any mixing will do
abbrev pub mixed : ℕ → ℕ → ℕ
mixed digest number = digest % 4294967296 * 1000003 + number % 4294967296

abbrev pub atoms_digest : ℕ → List ℕ → ℕ
atoms_digest digest [] = digest
atoms_digest digest (a ∷ rest) = atoms_digest (mixed digest a) rest

abbrev pub part_digest : ℕ → Part → ℕ
part_digest digest p = atoms_digest (mixed digest (p.coefficient % 4294967296)) p.atoms

abbrev pub form_digest : ℕ → List Part → ℕ
form_digest digest [] = digest
form_digest digest (p ∷ rest) = form_digest (part_digest digest p) rest

abbrev pub operands_digest : ℕ → List AtomOperand → ℕ
operands_digest digest [] = digest
operands_digest digest (o ∷ rest) = operands_digest (form_digest digest o.form) rest

abbrev pub digest : Atom → ℕ
digest (Name version ty) = version
digest (Operation code ty operands) = operands_digest 1 operands

-- ---- where to look

abbrev pub Starts : Type 0
Starts = HashMap ℕ ℕ (BuildHasherDefault FoldHasher)

-- where atoms of a digest begin, or the count where there are none
abbrev pub start_in : Starts → ℕ → ℕ → ℕ
start_in starts count digest = unwrap_or (get nat_eq starts digest) count

abbrev pub HasStart : Starts → ℕ → Type 0
HasStart starts digest = (i : ℕ) × (get nat_eq starts digest ≡ Some i)

-- an atom stands nowhere before a place
abbrev pub IsFrom : List Atom → ℕ → Atom → Type 0
IsFrom atoms start a = start + atom_number (drop start atoms) a ≡ atom_number atoms a

-- each atom is found from where its digest says
abbrev pub AreFound : List Atom → Starts → Type 0
AreFound atoms starts = (a : Atom) → IsFrom atoms (start_in starts (length atoms) (digest a)) a

-- what contracts see
abbrev pub atoms_of : Inside → List Atom
atoms_of t = t.atoms

abbrev pub Tells : Inside → Type 0
Tells t = AreFound t.atoms t.starts
