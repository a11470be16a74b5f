use Rattle.pm_term.proofs.TermLaws.{listed, all}
use Rattle.pm_term.proofs.laws.names_are_listed.Goals as goal

pub returns-clause-listed : goal.returns-clause-listed
returns-clause-listed c = listed

pub returns-clause-all : goal.returns-clause-all
returns-clause-all c = all
