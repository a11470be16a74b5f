use Rattle.pm_ops.proofs.PredicateLemmas.{pred_names_no_code, pred_names_no_c_code}
use Rattle.pm_ops.proofs.laws.predicates_name_no_operation.Goals as goal

pub returns-clause-patterns : goal.returns-clause-patterns
returns-clause-patterns c = pred_names_no_code

pub returns-clause-c_text : goal.returns-clause-c_text
returns-clause-c_text c = pred_names_no_c_code
