use Rattle.std.proofs.Common.{length}
use Rattle.match_top.proofs.options.+suit.Given as goal

abbrev pub decreases-suit : goal.decreases-suit
decreases-suit l = length l.settings.now
