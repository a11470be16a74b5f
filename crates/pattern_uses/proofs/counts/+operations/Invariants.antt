use Rattle.std.proofs.Common.{◌≡◌, ◌+◌, ◌-◌, ◌^◌, ◌≤◌, min, map, drop}
use Rattle.pattern_uses.specs.Counts.{operations, total}
use Rattle.pattern_uses.proofs.counts.+operations.Given as goal

abbrev pub invariant-operations_among-loop-pattern : goal.invariant-operations_among-loop-pattern
invariant-operations_among-loop-pattern l =
    (l.count ≤ 2 ^ 64 - 1)
    × (min (l.count + total (map operations (drop l.pattern-index l.patterns))) (2 ^ 64 - 1) ≡ min (total (map operations l.patterns)) (2 ^ 64 - 1))
