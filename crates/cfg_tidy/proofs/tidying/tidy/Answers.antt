use Rattle.cfg_tidy.proofs.RunsThroughChanges.{runs_alike_if_ok}
use Rattle.cfg_tidy.proofs.TidiedIsValid.{valid_if_ok}
use Rattle.cfg_tidy.proofs.TidiedRuns.{valid_runs_alike_if_ok}
use Rattle.cfg_tidy.proofs.tidying.tidy.Goals as goal

pub returns-clause-valid : goal.returns-clause-valid
returns-clause-valid c = valid_if_ok c.args.function c.make_changes.result c.make_changes.ensures

pub returns-clause-runs : goal.returns-clause-runs
returns-clause-runs c = valid_runs_alike_if_ok c.args.function c.make_changes.result c.make_changes.ensures

pub returns-clause-runs_without_phis : goal.returns-clause-runs_without_phis
returns-clause-runs_without_phis c = runs_alike_if_ok c.args.function c.make_changes.result c.make_changes.ensures
