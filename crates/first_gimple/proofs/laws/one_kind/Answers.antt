use Rattle.first_gimple.proofs.OneKind.{uniform}
use Rattle.first_gimple.proofs.laws.one_kind.Goals as goal

pub returns : goal.returns
returns c = uniform
