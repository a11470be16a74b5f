use Rattle.std.proofs.Common.{length}
use Rattle.pred_inline.proofs.finishing.+all_before.Given as goal

abbrev pub decreases-all_before : goal.decreases-all_before
decreases-all_before l = length l.tails.now
