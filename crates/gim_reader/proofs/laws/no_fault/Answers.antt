use Rattle.gim_reader.proofs.OneAnswer.{no_fault}
use Rattle.gim_reader.proofs.laws.no_fault.Goals as goal

pub returns : goal.returns
returns c = no_fault
