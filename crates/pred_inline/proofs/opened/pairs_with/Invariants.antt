use Rattle.std.proofs.Common.{◌≡◌, map, take}
use Rattle.pred_inline.specs.Opened.{pair_with}
use Rattle.pred_inline.proofs.opened.pairs_with.Given as goal

abbrev pub invariant-loop-pair : goal.invariant-loop-pair
invariant-loop-pair l = l.made ≡ map (pair_with l.by) (take l.pair-index l.pairs)
