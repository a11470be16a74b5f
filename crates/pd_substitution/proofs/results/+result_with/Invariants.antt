use Rattle.std.proofs.Common.{◌≡◌, false, map, take}
use Rattle.pd_substitution.specs.Substituted.{case_with, result_with}
use Rattle.pd_substitution.proofs.results.+result_with.Given as goal

abbrev pub invariant-all_anew-loop-gives : goal.invariant-all_anew-loop-gives
invariant-all_anew-loop-gives l =
    (l.made ≡ map (result_with l.by) (take l.gives-index l.results))
    × (l.changed ≡ false → l.made ≡ take l.gives-index l.results)

abbrev pub invariant-cases_anew-loop-case : goal.invariant-cases_anew-loop-case
invariant-cases_anew-loop-case l =
    (l.made ≡ map (case_with l.by) (take l.case-index l.cases))
    × (l.changed ≡ false → l.made ≡ take l.case-index l.cases)
