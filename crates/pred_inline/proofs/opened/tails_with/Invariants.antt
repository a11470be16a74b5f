use Rattle.std.proofs.Common.{◌≡◌, map, take}
use Rattle.pd_substitution.specs.Substituted.{tail_with}
use Rattle.pred_inline.proofs.opened.tails_with.Given as goal

abbrev pub invariant-loop-tail : goal.invariant-loop-tail
invariant-loop-tail l = l.made ≡ map (tail_with l.by) (take l.tail-index l.tails)
