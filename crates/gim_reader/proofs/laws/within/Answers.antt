use Rattle.gim_reader.proofs.WithinSource.{within}
use Rattle.gim_reader.proofs.laws.within.Goals as goal

pub returns : goal.returns
returns c = within
