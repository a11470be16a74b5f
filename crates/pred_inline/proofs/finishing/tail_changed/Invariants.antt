use Rattle.std.proofs.Common.{◌≡◌, drop}
use Rattle.pred_inline.specs.Inlined.{tail_changed}
use Rattle.pred_inline.proofs.finishing.tail_changed.Given as goal

abbrev pub invariant-loop-one : goal.invariant-loop-one
invariant-loop-one l = tail_changed (drop l.one-index l.changes) l.made ≡ tail_changed l.changes l.rest
