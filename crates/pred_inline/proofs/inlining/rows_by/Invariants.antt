use Rattle.std.proofs.Common.{◌≡◌, map, take, drop}
use Rattle.pred_inline.specs.Faults.{rows_limit}
use Rattle.pred_inline.specs.Inlined.{row_by}
use Rattle.pred_inline.proofs.inlining.rows_by.Given as goal

abbrev pub invariant-loop-cases : goal.invariant-loop-cases
invariant-loop-cases l =
    (rows_limit l.row l.conditions (drop l.cases-index l.choices) ≡ rows_limit l.row l.conditions l.choices)
    × (l.made ≡ map (row_by l.row l.conditions) (take l.cases-index l.choices))
