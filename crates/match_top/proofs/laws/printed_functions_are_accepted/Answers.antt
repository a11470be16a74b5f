use Rattle.match_top.proofs.OneAnswer.{printed_functions}
use Rattle.match_top.proofs.laws.printed_functions_are_accepted.Goals as goal

pub returns : goal.returns
returns c = printed_functions
