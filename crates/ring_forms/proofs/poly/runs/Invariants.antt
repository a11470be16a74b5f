use Rattle.std.proofs.Common.{◌≡◌, ◌-◌, drop, length}
use Rattle.ring_forms.specs.Polynomials.{stopped_runs}
use Rattle.ring_forms.proofs.poly.runs.Given as goal

abbrev pub invariant-loop-i : goal.invariant-loop-i
invariant-loop-i l = l.made ≡ stopped_runs (drop (length l.atoms - l.i) l.atoms)
