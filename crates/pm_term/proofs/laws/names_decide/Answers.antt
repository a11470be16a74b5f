use Rattle.pm_term.proofs.TermLaws.{names_decide}
use Rattle.pm_term.proofs.laws.names_decide.Goals as goal

pub returns : goal.returns
returns c = names_decide
