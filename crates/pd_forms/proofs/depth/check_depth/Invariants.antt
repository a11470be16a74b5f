-- What the loop of `check_depth` keeps.
use Rattle.std.proofs.Common.{◌≡◌, ◌≤◌}
use Rattle.pd_forms.specs.Depth.{open_before, IsSoundBefore}
use Rattle.pd_forms.proofs.depth.check_depth.Given as goal

abbrev pub invariant-loop-at : goal.invariant-loop-at
invariant-loop-at l = (l.level ≡ open_before l.symbols l.at) × (l.level ≤ 64) × IsSoundBefore l.symbols l.at
