-- That the recursion over such results ends, and what its loop keeps.
use Rattle.std.proofs.Common.{◌+◌, ◌*◌, ◌≤◌, [], length, map}
use Rattle.grammar.proofs.Loops.{StillRuns}
use Rattle.grammar.specs.Reading.{item_step, more_at}
use Rattle.pd_forms.specs.Results.{leaf_of}
use Rattle.pd_forms.specs.LeafReaders.{leaves_at, begins_result}
use Rattle.pd_forms.proofs.leaf.+leaf.Given as goal

abbrev pub decreases-read_within : goal.decreases-read_within
decreases-read_within l = 4 * l.room

abbrev pub decreases-read_leaves : goal.decreases-read_leaves
decreases-read_leaves l = 4 * l.room + 1

abbrev pub decreases-read_named : goal.decreases-read_named
decreases-read_named l = 4 * l.room + 2

abbrev pub decreases-read_any : goal.decreases-read_any
decreases-read_any l = 4 * l.room + 3

abbrev pub invariant-read_leaves-loop-alloc : goal.invariant-read_leaves-loop-alloc
invariant-read_leaves-loop-alloc l =
    StillRuns (item_step begins_result (leaves_at l.room)) (more_at begins_result (leaves_at l.room) [] l.symbols) (map leaf_of l.operands) l.rest × (length l.rest ≤ length l.symbols)

abbrev pub decreases-read_leaves-loop-alloc : goal.decreases-read_leaves-loop-alloc
decreases-read_leaves-loop-alloc l = length l.rest
