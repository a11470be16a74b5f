use Rattle.gim_meaning.proofs.RunsAndPoints.{returned_at, returns_there}
use Rattle.gim_meaning.proofs.laws.points.runs_return_where_blocks_lead_out.Goals as goal

pub returns-clause-comes : goal.returns-clause-comes
returns-clause-comes c = returned_at

pub returns-clause-returns : goal.returns-clause-returns
returns-clause-returns c = returns_there
