use Rattle.std.proofs.Common.{◌≡◌, take}
use Rattle.std.specs.List.{flat_map}
use Rattle.pred_inline.specs.Inlined.{before_each}
use Rattle.pred_inline.proofs.choices.each_before.Given as goal

abbrev pub invariant-loop-case : goal.invariant-loop-case
invariant-loop-case l = l.made ≡ flat_map (before_each l.inner) (take l.case-index l.cases)
