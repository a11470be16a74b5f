use Rattle.std.proofs.Common.{◌≡◌, map, take, drop}
use Rattle.pred_inline.specs.Faults.{cases_limit}
use Rattle.pred_inline.specs.Inlined.{case_by}
use Rattle.pred_inline.proofs.inlining.cases_by.Given as goal

abbrev pub invariant-loop-cases : goal.invariant-loop-cases
invariant-loop-cases l =
    (cases_limit l.case l.conditions (drop l.cases-index l.choices) ≡ cases_limit l.case l.conditions l.choices)
    × (l.made ≡ map (case_by l.case l.conditions) (take l.cases-index l.choices))
