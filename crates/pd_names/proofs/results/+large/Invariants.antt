-- What the loop over items keeps.
use Rattle.std.proofs.Common.{◌≡◌, map, drop}
use Rattle.pd_forms.specs.Results.{result_of, results}
use Rattle.pd_names.specs.Results.{have_large}
use Rattle.pd_names.proofs.results.+large.Given as goal

abbrev pub invariant-have_large-loop-item : goal.invariant-have_large-loop-item
invariant-have_large-loop-item l = have_large (results (map result_of l.items)) ≡ have_large (results (map result_of (drop l.item-index l.items)))
