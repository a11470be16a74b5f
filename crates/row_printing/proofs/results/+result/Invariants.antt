use Rattle.std.proofs.Common.{◌≡◌, ◌++◌, map, take}
use Rattle.row_printing.specs.Results.{case_text, result_text}
use Rattle.row_printing.specs.Texts.{all_spaced}
use Rattle.row_printing.proofs.results.+result.Given as goal

abbrev pub invariant-push_results-loop-gives : goal.invariant-push_results-loop-gives
invariant-push_results-loop-gives l =
    l.out ≡ l.initial.out ++ all_spaced (map result_text (take l.gives-index l.results))

abbrev pub invariant-push_cases-loop-case : goal.invariant-push_cases-loop-case
invariant-push_cases-loop-case l =
    l.out ≡ l.initial.out ++ all_spaced (map case_text (take l.case-index l.cases))
