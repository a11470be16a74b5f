use Rattle.gim_meaning.proofs.AllRunsKept.{keeps_defined}
use Rattle.value_numbers.specs.Merges.{merged}
use Rattle.value_numbers.proofs.MergedFunctions.{merged_is_valid, merge_keeps_all_runs}
use Rattle.value_numbers.proofs.laws.a_merge_keeps_validity_and_runs.Goals as goal

pub returns-clause-valid : goal.returns-clause-valid
returns-clause-valid c = λ f x y valid merge. merged_is_valid f valid x y merge

pub returns-clause-runs : goal.returns-clause-runs
returns-clause-runs c = λ f x y valid merge. keeps_defined f (merged x y f) (merge_keeps_all_runs f valid x y merge)

pub returns-clause-all : goal.returns-clause-all
returns-clause-all c = λ f x y valid merge. merge_keeps_all_runs f valid x y merge
