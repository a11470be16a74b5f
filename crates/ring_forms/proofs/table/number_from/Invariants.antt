use Rattle.std.proofs.Common.{◌≡◌, ◌+◌, drop}
use Rattle.ring_forms.specs.Atoms.{atom_number}
use Rattle.ring_forms.proofs.table.number_from.Given as goal

abbrev pub invariant-loop-i : goal.invariant-loop-i
invariant-loop-i l = l.i + atom_number (drop l.i l.atoms) l.atom ≡ atom_number l.atoms l.atom
