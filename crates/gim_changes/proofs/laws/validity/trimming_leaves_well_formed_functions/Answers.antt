use Rattle.gim_changes.proofs.ReadyToTrim.{trimmed_is}
use Rattle.gim_changes.proofs.laws.validity.trimming_leaves_well_formed_functions.Goals as goal

pub returns : goal.returns
returns c = trimmed_is
