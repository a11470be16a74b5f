use Rattle.std.proofs.Common.{◌≡◌, take}
use Rattle.pred_inline.proofs.inlining.copied_pairs.Given as goal

abbrev pub invariant-loop-pair : goal.invariant-loop-pair
invariant-loop-pair l = l.made ≡ take l.pair-index l.pairs
