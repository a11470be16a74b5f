use Rattle.std.proofs.Common.{◌≡◌, ◌++◌, map, drop}
use Rattle.pd_substitution.specs.Operators.{joined, operators_of_pattern}
use Rattle.pd_substitution.proofs.operators.+operators_of_pattern.Given as goal

abbrev pub invariant-among_patterns-loop-pattern : goal.invariant-among_patterns-loop-pattern
invariant-among_patterns-loop-pattern l = l.made ++ joined (map operators_of_pattern (drop l.pattern-index l.patterns)) ≡ joined (map operators_of_pattern l.patterns)
