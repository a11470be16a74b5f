use Rattle.std.proofs.Common.{◌≡◌, ◌++◌, drop}
use Rattle.ring_forms.specs.Polynomials.{factors_of_runs, stopped_runs}
use Rattle.ring_forms.proofs.poly.factors_of.Given as goal

abbrev pub invariant-loop-run : goal.invariant-loop-run
invariant-loop-run l = l.made ++ factors_of_runs l.nodes (drop l.run-index l.run-items) ≡ factors_of_runs l.nodes (stopped_runs l.atoms)
