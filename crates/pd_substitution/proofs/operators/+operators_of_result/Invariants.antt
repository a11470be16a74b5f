use Rattle.std.proofs.Common.{◌≡◌, ◌++◌, map, drop}
use Rattle.pd_substitution.specs.Operators.{joined, operators_of_case, operators_of_result}
use Rattle.pd_substitution.proofs.operators.+operators_of_result.Given as goal

abbrev pub invariant-among_results-loop-gives : goal.invariant-among_results-loop-gives
invariant-among_results-loop-gives l = l.made ++ joined (map operators_of_result (drop l.gives-index l.results)) ≡ joined (map operators_of_result l.results)

abbrev pub invariant-among_cases-loop-case : goal.invariant-among_cases-loop-case
invariant-among_cases-loop-case l = l.made ++ joined (map operators_of_case (drop l.case-index l.cases)) ≡ joined (map operators_of_case l.cases)
