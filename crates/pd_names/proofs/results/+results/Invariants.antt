-- What the loop over items keeps.
use Rattle.std.proofs.Common.{◌≡◌, map, drop}
use Rattle.pd_forms.specs.Results.{result_of, results}
use Rattle.pd_names.specs.Results.{results_fault}
use Rattle.pd_names.proofs.results.+results.Given as goal

abbrev pub invariant-check_results-loop-item : goal.invariant-check_results-loop-item
invariant-check_results-loop-item l =
    results_fault l.source l.known l.sight (results (map result_of l.items)) ≡ results_fault l.source l.known l.sight (results (map result_of (drop l.item-index l.items)))
