-- That the recursion over results ends, and what its loop keeps.
use Rattle.std.proofs.Common.{◌≡◌, ◌+◌, ◌*◌, ◌≤◌, length, map}
use Rattle.grammar.proofs.Loops.{StillRuns}
use Rattle.pd_forms.specs.Results.{result_of}
use Rattle.pd_forms.specs.ResultReaders.{results_at, switch_step, items_at, ends_with_case}
use Rattle.pd_forms.proofs.result.+result.Given as goal

abbrev pub decreases-read_within : goal.decreases-read_within
decreases-read_within l = 6 * l.room

abbrev pub decreases-read_after_first : goal.decreases-read_after_first
decreases-read_after_first l = 6 * l.room + 1

abbrev pub decreases-read_case : goal.decreases-read_case
decreases-read_case l = 6 * l.room + 1

abbrev pub decreases-read_conditional : goal.decreases-read_conditional
decreases-read_conditional l = 6 * l.room + 2

abbrev pub decreases-read_items : goal.decreases-read_items
decreases-read_items l = 6 * l.room + 2

abbrev pub decreases-read_switch : goal.decreases-read_switch
decreases-read_switch l = 6 * l.room + 3

abbrev pub decreases-read_with : goal.decreases-read_with
decreases-read_with l = 6 * l.room + 1

abbrev pub decreases-read_opened : goal.decreases-read_opened
decreases-read_opened l = 6 * l.room + 4

abbrev pub decreases-read_any : goal.decreases-read_any
decreases-read_any l = 6 * l.room + 5

abbrev pub invariant-read_items-loop-after_case : goal.invariant-read_items-loop-after_case
invariant-read_items-loop-after_case l =
    StillRuns (switch_step (results_at l.room)) (items_at (results_at l.room) (map result_of l.fn.first) l.symbols) (map result_of l.items) l.rest
    × (length l.rest ≤ length l.symbols) × (l.after_case ≡ ends_with_case (map result_of l.items))

abbrev pub decreases-read_items-loop-after_case : goal.decreases-read_items-loop-after_case
decreases-read_items-loop-after_case l = length l.rest
