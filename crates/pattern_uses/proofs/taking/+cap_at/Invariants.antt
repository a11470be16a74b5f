use Rattle.std.proofs.Common.{◌≡◌, map, drop}
use Rattle.pattern_uses.specs.Uses.{cap_at, first_of}
use Rattle.pattern_uses.proofs.taking.+cap_at.Given as goal

abbrev pub invariant-cap_among-loop-pattern : goal.invariant-cap_among-loop-pattern
invariant-cap_among-loop-pattern l = first_of (map (cap_at l.label) (drop l.pattern-index l.patterns)) ≡ first_of (map (cap_at l.label) l.patterns)
