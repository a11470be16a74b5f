use Rattle.match_top.proofs.OneAnswer.{printed_again}
use Rattle.match_top.proofs.laws.what_check_prints_it_prints_again.Goals as goal

pub returns : goal.returns
returns c = printed_again
