-- What the loop of `count_names` keeps.
use Rattle.std.proofs.Common.{◌≡◌, ◌+◌, ◌≤◌, length}
use Rattle.pd_pattern_names.specs.Captures.{count_names}
use Rattle.pd_pattern_names.proofs.captures.count_names.Given as goal

abbrev pub invariant-loop-rest : goal.invariant-loop-rest
invariant-loop-rest l = (l.count + count_names l.source l.rest ≡ count_names l.source l.captures) × (l.count + length l.rest ≤ length l.captures)

abbrev pub decreases-loop-rest : goal.decreases-loop-rest
decreases-loop-rest l = length l.rest
