use Rattle.std.proofs.Common.{length}
use Rattle.pred_inline.proofs.choices.+choices.Given as goal

abbrev pub decreases-choices : goal.decreases-choices
decreases-choices l = length l.names.now
