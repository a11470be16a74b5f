use Rattle.std.proofs.Common.{◌≡◌, map, take}
use Rattle.pd_substitution.specs.Substituted.{pattern_with}
use Rattle.pred_inline.proofs.opened.patterns_with.Given as goal

abbrev pub invariant-loop-pattern : goal.invariant-loop-pattern
invariant-loop-pattern l = l.made ≡ map (pattern_with l.by) (take l.pattern-index l.patterns)
