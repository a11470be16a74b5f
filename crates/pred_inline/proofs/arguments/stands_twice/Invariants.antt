use Rattle.std.proofs.Common.{◌≡◌, drop}
use Rattle.pred_inline.specs.Arguments.{stands_twice}
use Rattle.pred_inline.proofs.arguments.stands_twice.Given as goal

abbrev pub invariant-loop-i : goal.invariant-loop-i
invariant-loop-i l = stands_twice l.name (drop l.i l.names) ≡ stands_twice l.name l.names
