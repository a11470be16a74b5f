use Rattle.gim_reader.proofs.OneAnswer.{one_fault}
use Rattle.gim_reader.proofs.laws.one_fault.Goals as goal

pub returns : goal.returns
returns c = one_fault
