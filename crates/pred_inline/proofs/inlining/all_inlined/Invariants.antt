use Rattle.std.proofs.Common.{◌≡◌, drop}
use Rattle.pred_inline.specs.Inlined.{all_inlined}
use Rattle.pred_inline.proofs.inlining.all_inlined.Given as goal

abbrev pub invariant-loop-i : goal.invariant-loop-i
invariant-loop-i l = all_inlined l.i (drop l.i l.cases) l.made ≡ all_inlined 0 l.cases l.fn.row
