use Rattle.gim_meaning.proofs.KeptInARow.{keeps_itself, keeps_through}
use Rattle.gim_meaning.proofs.laws.changes.runs_are_kept_in_a_row.Goals as goal

pub returns-clause-itself : goal.returns-clause-itself
returns-clause-itself c = keeps_itself

pub returns-clause-through : goal.returns-clause-through
returns-clause-through c = keeps_through
