use Rattle.std.proofs.Common.{◌≡◌, map, take}
use Rattle.pd_substitution.specs.Substituted.{pattern_with}
use Rattle.pred_inline.proofs.opened.uses_with.Given as goal

abbrev pub invariant-loop-args : goal.invariant-loop-args
invariant-loop-args l = l.made ≡ map (map (pattern_with l.by)) (take l.args-index l.uses)
