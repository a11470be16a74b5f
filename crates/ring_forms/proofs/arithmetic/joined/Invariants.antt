use Rattle.std.proofs.Common.{◌≡◌, drop}
use Rattle.ring_forms.specs.Forms.{joined_atoms}
use Rattle.ring_forms.proofs.arithmetic.joined.Given as goal

abbrev pub invariant-loop-atom : goal.invariant-loop-atom
invariant-loop-atom l = joined_atoms (drop l.atom-index l.first) l.atoms ≡ joined_atoms l.first l.second
