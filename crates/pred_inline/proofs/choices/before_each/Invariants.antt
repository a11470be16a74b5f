use Rattle.std.proofs.Common.{◌≡◌, take}
use Rattle.pred_inline.specs.Inlined.{before_each}
use Rattle.pred_inline.proofs.choices.before_each.Given as goal

abbrev pub invariant-loop-rest : goal.invariant-loop-rest
invariant-loop-rest l = l.made ≡ before_each (take l.rest-index l.inner) l.case
