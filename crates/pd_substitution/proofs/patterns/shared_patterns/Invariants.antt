use Rattle.std.proofs.Common.{◌≡◌, take}
use Rattle.pd_substitution.proofs.patterns.shared_patterns.Given as goal

abbrev pub invariant-loop-pattern : goal.invariant-loop-pattern
invariant-loop-pattern l = l.made ≡ take l.pattern-index l.patterns
