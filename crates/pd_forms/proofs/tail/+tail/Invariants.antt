-- That the recursion over tails ends.
use Rattle.std.proofs.Common.{◌+◌, ◌*◌}
use Rattle.pd_forms.proofs.tail.+tail.Given as goal

abbrev pub decreases-read_within : goal.decreases-read_within
decreases-read_within l = 4 * l.room

abbrev pub decreases-read_conditional : goal.decreases-read_conditional
decreases-read_conditional l = 4 * l.room + 1

abbrev pub decreases-read_with : goal.decreases-read_with
decreases-read_with l = 4 * l.room + 1

abbrev pub decreases-read_any : goal.decreases-read_any
decreases-read_any l = 4 * l.room + 2
