use Rattle.std.proofs.Common.{◌≡◌}
use Rattle.gim_making.proofs.rows.in_order.Given as goal

abbrev pub invariant-loop-row : goal.invariant-loop-row
invariant-loop-row l = l.names ≡ l.yielded
