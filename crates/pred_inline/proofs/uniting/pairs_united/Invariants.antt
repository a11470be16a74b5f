use Rattle.std.proofs.Common.{◌≡◌, drop}
use Rattle.pred_inline.specs.Opened.{pairs_united}
use Rattle.pred_inline.proofs.uniting.pairs_united.Given as goal

abbrev pub invariant-loop-pair : goal.invariant-loop-pair
invariant-loop-pair l = pairs_united l.params (drop l.pair-index l.pairs) l.made ≡ pairs_united l.params l.pairs l.fn.row
