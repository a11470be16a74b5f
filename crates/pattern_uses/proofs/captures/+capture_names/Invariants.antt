use Rattle.std.proofs.Common.{◌≡◌, ◌++◌, map, drop}
use Rattle.pattern_uses.specs.Captures.{capture_names, joined}
use Rattle.pattern_uses.proofs.captures.+capture_names.Given as goal

abbrev pub invariant-names_among-loop-pattern : goal.invariant-names_among-loop-pattern
invariant-names_among-loop-pattern l =
    l.made ++ joined (map capture_names (drop l.pattern-index l.patterns)) ≡ joined (map capture_names l.patterns)
