use Rattle.std.proofs.Common.{◌≡◌, ◌++◌, map, drop}
use Rattle.pattern_uses.specs.Captures.{joined}
use Rattle.pattern_uses.specs.Uses.{used_predicates}
use Rattle.pattern_uses.proofs.taking.+used_predicates.Given as goal

abbrev pub invariant-used_among-loop-pattern : goal.invariant-used_among-loop-pattern
invariant-used_among-loop-pattern l = l.made ++ joined (map used_predicates (drop l.pattern-index l.patterns)) ≡ joined (map used_predicates l.patterns)
