use Rattle.std.proofs.Common.{◌≡◌, take}
use Rattle.pd_substitution.proofs.results.shared_results.Given as goal

abbrev pub invariant-loop-gives : goal.invariant-loop-gives
invariant-loop-gives l = l.made ≡ take l.gives-index l.results
