use Rattle.std.proofs.Common.{◌≡◌, ◌∷◌, ◌++◌, drop, length}
use Rattle.ring_forms.specs.Polynomials.{flat, stopped_runs}
use Rattle.ring_forms.proofs.poly.rank.Given as goal

abbrev pub invariant-loop-run : goal.invariant-loop-run
invariant-loop-run l = l.made ++ flat (drop l.run-index l.run-items) ≡ length l.atoms ∷ flat (stopped_runs l.atoms)
