use Rattle.gim_reader.proofs.OneAnswer.{one_list}
use Rattle.gim_reader.proofs.laws.one_list.Goals as goal

pub returns : goal.returns
returns c = one_list
