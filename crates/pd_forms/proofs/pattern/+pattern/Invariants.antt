-- That the recursion over patterns ends, and what its loop keeps.
use Rattle.std.proofs.Common.{◌+◌, ◌*◌, ◌≤◌, [], length, map}
use Rattle.grammar.proofs.Loops.{StillRuns}
use Rattle.grammar.specs.Reading.{item_step, more_at}
use Rattle.pd_forms.specs.Trees.{pattern_of}
use Rattle.pd_forms.specs.PatternReaders.{patterns_at, begins_pattern}
use Rattle.pd_forms.proofs.pattern.+pattern.Given as goal

abbrev pub decreases-read_within : goal.decreases-read_within
decreases-read_within l = 4 * l.room

abbrev pub decreases-read_operands : goal.decreases-read_operands
decreases-read_operands l = 4 * l.room + 1

abbrev pub decreases-read_operation : goal.decreases-read_operation
decreases-read_operation l = 4 * l.room + 2

abbrev pub decreases-read_any : goal.decreases-read_any
decreases-read_any l = 4 * l.room + 3

abbrev pub invariant-read_operands-loop-alloc : goal.invariant-read_operands-loop-alloc
invariant-read_operands-loop-alloc l =
    StillRuns (item_step begins_pattern (patterns_at l.room)) (more_at begins_pattern (patterns_at l.room) [] l.symbols) (map pattern_of l.operands) l.rest × (length l.rest ≤ length l.symbols)

abbrev pub decreases-read_operands-loop-alloc : goal.decreases-read_operands-loop-alloc
decreases-read_operands-loop-alloc l = length l.rest
