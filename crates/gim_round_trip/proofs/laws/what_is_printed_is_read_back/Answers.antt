use Rattle.gim_round_trip.proofs.PrintedFunctions.{read_back}
use Rattle.gim_round_trip.proofs.laws.what_is_printed_is_read_back.Goals as goal

pub returns : goal.returns
returns c = read_back
