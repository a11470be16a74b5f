-- What the loop of `read_more` keeps.
use Rattle.std.proofs.Common.{◌≤◌, length, map}
use Rattle.grammar.proofs.Loops.{StillRuns}
use Rattle.grammar.specs.Reading.{item_step, more_at}
use Rattle.cond_subset.specs.Trees.{expr_of}
use Rattle.cond_subset.specs.Readers.{readers, is_comma, further_at}
use Rattle.cond_subset.proofs.declaration.read_more.Given as goal

abbrev pub invariant-loop-alloc : goal.invariant-loop-alloc
invariant-loop-alloc l =
    StillRuns (item_step is_comma (further_at (readers l.room))) (more_at is_comma (further_at (readers l.room)) (map expr_of l.fn.args) l.symbols) (map expr_of l.args) l.rest × (length l.rest ≤ length l.symbols)

abbrev pub decreases-loop-alloc : goal.decreases-loop-alloc
decreases-loop-alloc l = length l.rest
