use Rattle.pm_wide.proofs.Values.{width_positive, width_small}
use Rattle.pm_wide.proofs.laws.types_have_bits.Goals as goal

pub returns-clause-least : goal.returns-clause-least
returns-clause-least c = width_positive

pub returns-clause-greatest : goal.returns-clause-greatest
returns-clause-greatest c = width_small
