use Rattle.gim_round_trip.proofs.ReadFunctions.{read_may_be_printed}
use Rattle.gim_round_trip.proofs.laws.what_is_read_may_be_printed.Goals as goal

pub returns : goal.returns
returns c = read_may_be_printed
