use Rattle.std.proofs.Common.{◌≡◌, drop}
use Rattle.ring_forms.specs.Digests.{atoms_digest}
use Rattle.ring_forms.proofs.table.atoms_digest.Given as goal

abbrev pub invariant-loop-atom : goal.invariant-loop-atom
invariant-loop-atom l = atoms_digest l.digest (drop l.atom-index l.atoms) ≡ atoms_digest l.from l.atoms
