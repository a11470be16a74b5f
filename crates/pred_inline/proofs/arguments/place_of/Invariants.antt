use Rattle.std.proofs.Common.{◌≡◌, ◌+◌, drop}
use Rattle.pred_inline.specs.Arguments.{place_of}
use Rattle.pred_inline.proofs.arguments.place_of.Given as goal

abbrev pub invariant-loop-i : goal.invariant-loop-i
invariant-loop-i l = l.i + place_of (drop l.i l.params) l.name ≡ place_of l.params l.name
