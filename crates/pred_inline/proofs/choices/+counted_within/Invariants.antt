use Rattle.std.proofs.Common.{length}
use Rattle.pred_inline.proofs.choices.+counted_within.Given as goal

abbrev pub decreases-counted_within : goal.decreases-counted_within
decreases-counted_within l = length l.names.now
