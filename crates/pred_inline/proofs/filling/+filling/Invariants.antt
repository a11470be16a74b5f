use Rattle.std.proofs.Common.{◌≡◌, ◌++◌, map, drop}
use Rattle.pred_inline.specs.Filled.{all_filled, all_holes, filling}
use Rattle.pred_inline.proofs.filling.+filling.Given as goal

abbrev pub invariant-all_filled-loop-pattern : goal.invariant-all_filled-loop-pattern
invariant-all_filled-loop-pattern l =
    (l.before ++ all_holes (map (filling l.by l.case l.args) (drop l.pattern-index l.patterns))
    ≡ l.initial.before ++ all_holes (map (filling l.by l.case l.args) l.patterns))
    × (l.made ++ all_filled (map (filling l.by l.case l.args) (drop l.pattern-index l.patterns)) l.before
    ≡ all_filled (map (filling l.by l.case l.args) l.patterns) l.initial.before)
