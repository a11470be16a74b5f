use Rattle.std.proofs.Common.{◌≡◌, ◌+◌, ◌-◌, ◌^◌, ◌≤◌, min, map, drop}
use Rattle.commute_expand.specs.Marks.{marks, total}
use Rattle.commute_expand.proofs.marks.+marks.Given as goal

abbrev pub invariant-marks_among-loop-pattern : goal.invariant-marks_among-loop-pattern
invariant-marks_among-loop-pattern l =
    (l.count ≤ 2 ^ 64 - 1)
    × (min (l.count + total (map marks (drop l.pattern-index l.patterns))) (2 ^ 64 - 1) ≡ min (total (map marks l.patterns)) (2 ^ 64 - 1))
