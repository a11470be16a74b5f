-- How the code compares differences: as forms over one table of atoms.
use Rattle.std.specs.Prelude.{ℕ, ◌≡◌, ◌==◌, ◌%◌, ◌^◌, true, if◌then◌else◌, Option, Some, None, List, [], ◌∷◌, length}
use Rattle.pm_ops.specs.declared.code.Code.TheVariants.{Minus}
use Rattle.pm_wide.specs.Types.{Word, int128_type}
use Rattle.pm_term.specs.Trees.{Trees}
use Rattle.ring_forms.specs.declared.form.Part.{Part}
use Rattle.ring_forms.specs.declared.atom.Atom.{Atom}
use Rattle.ring_forms.specs.declared.exact.Reading.{Reading}
use Rattle.ring_forms.specs.Differences.{all_signed}
use Rattle.ring_forms.specs.ExactTables.{blank, exact_reads}
use Rattle.ring_forms.specs.TableForms.{combined_form, ring_forms}

-- of one form itself, of two the first less the second, modulo 2 ^ m
abbrev pub less : {T : Type 0} → ℕ → Option (List (List Part) × T) → Option (List Part × T)
less m None = None
less m (Some r) = Some (combined_form m Minus 0 r.0, r.1)

abbrev pub exact_difference_read : Trees → Reading → Option (List Part × Reading)
exact_difference_read ts r = less 128 (exact_reads ts r)

abbrev pub ring_difference_read : ℕ → Trees → List Atom → Option (List Part × List Atom)
ring_difference_read m ts table = less m (ring_forms m ts table)

-- one form, where the second is read over what the first has left
abbrev pub HaveOne : {T : Type 0} → Option (List Part × T) → (T → Option (List Part × T)) → Type 0
HaveOne None second = ⊥
HaveOne {T} (Some r) second = (last : T) × (second r.1 ≡ Some (r.0, last))

abbrev pub AreOneOverReading : Trees → Trees → Type 0
AreOneOverReading ts us =
    (all_signed ts ≡ true) × (all_signed us ≡ true) × HaveOne (exact_difference_read ts blank) (exact_difference_read us)

abbrev pub AreOneOverTable : ℕ → Trees → Trees → Type 0
AreOneOverTable m ts us = HaveOne (ring_difference_read m ts []) (ring_difference_read m us)

-- the number that a form is, where it has no product of atoms
abbrev pub number_of_part : Part → Option ℕ
number_of_part p = if length p.atoms == 0 then Some p.coefficient else None

abbrev pub number_of : List Part → Option ℕ
number_of [] = Some 0
number_of (p ∷ []) = number_of_part p
number_of _ = None

abbrev pub number_read : {T : Type 0} → Option (List Part × T) → Option ℕ
number_read None = None
number_read (Some r) = number_of r.0

-- a residue modulo 2 ^ 128 as a word of the widest type with a sign
abbrev pub word_or_none : Option ℕ → Option Word
word_or_none None = None
word_or_none (Some n) = Some (record { bits = n % 2 ^ 128; ty = int128_type })

abbrev pub exact_number_read : Trees → Option Word
exact_number_read ts = if all_signed ts then word_or_none (number_read (exact_difference_read ts blank)) else None

abbrev pub ring_number_read : ℕ → Trees → Option ℕ
ring_number_read m ts = number_read (ring_difference_read m ts [])
