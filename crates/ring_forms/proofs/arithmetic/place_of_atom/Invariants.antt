use Rattle.std.proofs.Common.{◌≡◌, ◌+◌, drop}
use Rattle.ring_forms.specs.Places.{atom_place}
use Rattle.ring_forms.proofs.arithmetic.place_of_atom.Given as goal

abbrev pub invariant-loop-i : goal.invariant-loop-i
invariant-loop-i l = l.i + atom_place l.atom (drop l.i l.atoms) ≡ atom_place l.atom l.atoms
