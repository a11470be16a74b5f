use Rattle.std.proofs.Common.{◌≡◌, ◌+◌, ◌≤◌, drop}
use Rattle.pattern_uses.specs.Counts.{distinct}
use Rattle.pattern_uses.proofs.counts.distinct.Given as goal

abbrev pub invariant-loop-i : goal.invariant-loop-i
invariant-loop-i l =
    (l.count + distinct (drop l.i l.names) ≡ distinct l.names)
    × (l.count ≤ l.i)
