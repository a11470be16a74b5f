use Rattle.std.proofs.Common.{◌≡◌, drop, map}
use Rattle.pattern_rows.specs.Patterns.{pattern_of, patterns, are_expanded}
use Rattle.pattern_rows.proofs.expanded.+expanded.Given as goal

abbrev pub invariant-are_expanded-loop-pattern : goal.invariant-are_expanded-loop-pattern
invariant-are_expanded-loop-pattern l =
    are_expanded (patterns (map pattern_of (drop l.pattern-index l.patterns))) ≡ are_expanded (patterns (map pattern_of l.patterns))
