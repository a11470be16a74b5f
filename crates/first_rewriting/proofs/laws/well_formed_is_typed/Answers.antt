use Rattle.first_rewriting.proofs.WellTyped.{well_typed}
use Rattle.first_rewriting.proofs.laws.well_formed_is_typed.Goals as goal

pub returns : goal.returns
returns c = well_typed
