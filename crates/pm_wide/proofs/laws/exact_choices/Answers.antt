use Rattle.pm_wide.proofs.Values.{least_is, greatest_is}
use Rattle.pm_wide.proofs.laws.exact_choices.Goals as goal

pub returns-clause-least : goal.returns-clause-least
returns-clause-least c = least_is

pub returns-clause-greatest : goal.returns-clause-greatest
returns-clause-greatest c = greatest_is
