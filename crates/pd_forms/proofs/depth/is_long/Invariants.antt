-- What the loop of `is_long` keeps.
use Rattle.std.proofs.Common.{◌≡◌, ◌+◌, ◌≤◌, length}
use Rattle.pd_forms.specs.Depth.{tokens_to_close}
use Rattle.pd_forms.proofs.depth.is_long.Given as goal

abbrev pub invariant-loop-rest : goal.invariant-loop-rest
invariant-loop-rest l =
    (l.count + tokens_to_close l.level l.rest ≡ tokens_to_close 0 l.symbols) × (l.count ≤ 1024) × (l.level ≤ l.count)

abbrev pub decreases-loop-rest : goal.decreases-loop-rest
decreases-loop-rest l = length l.rest
