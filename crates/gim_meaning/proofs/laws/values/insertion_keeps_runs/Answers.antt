use Rattle.gim_meaning.proofs.AllowedInsertions.{always_defined_keeps}
use Rattle.gim_meaning.proofs.laws.values.insertion_keeps_runs.Goals as goal

pub returns : goal.returns
returns c = always_defined_keeps
