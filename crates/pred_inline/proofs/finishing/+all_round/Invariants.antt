use Rattle.std.proofs.Common.{length}
use Rattle.pred_inline.proofs.finishing.+all_round.Given as goal

abbrev pub decreases-all_round : goal.decreases-all_round
decreases-all_round l = length l.tails.now
