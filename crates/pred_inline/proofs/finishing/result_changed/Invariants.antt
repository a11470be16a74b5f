use Rattle.std.proofs.Common.{◌≡◌, drop}
use Rattle.pred_inline.specs.Inlined.{result_changed}
use Rattle.pred_inline.proofs.finishing.result_changed.Given as goal

abbrev pub invariant-loop-one : goal.invariant-loop-one
invariant-loop-one l = result_changed (drop l.one-index l.changes) l.made ≡ result_changed l.changes l.gives
