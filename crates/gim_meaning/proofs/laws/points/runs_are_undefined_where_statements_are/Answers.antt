use Rattle.gim_meaning.proofs.RunsAndPoints.{undefined_at, undefined_there}
use Rattle.gim_meaning.proofs.laws.points.runs_are_undefined_where_statements_are.Goals as goal

pub returns-clause-comes : goal.returns-clause-comes
returns-clause-comes c = undefined_at

pub returns-clause-is_undefined : goal.returns-clause-is_undefined
returns-clause-is_undefined c = undefined_there
