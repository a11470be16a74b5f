use Rattle.gim_meaning.proofs.AllowedInsertions.{defined_before_stmt, defined_before_end}
use Rattle.gim_meaning.proofs.laws.terms.insertion_keeps_runs.Goals as goal

pub returns-clause-before_stmt : goal.returns-clause-before_stmt
returns-clause-before_stmt c = defined_before_stmt

pub returns-clause-before_end : goal.returns-clause-before_end
returns-clause-before_end c = defined_before_end
