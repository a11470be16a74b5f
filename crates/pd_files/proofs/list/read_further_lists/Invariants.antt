-- What the loop of `read_further_lists` keeps.
use Rattle.std.proofs.Common.{◌≤◌, length}
use Rattle.grammar.proofs.Loops.{StillRuns}
use Rattle.grammar.specs.Reading.{item_step, more_at}
use Rattle.pd_files.specs.FormReaders.{is_name, list_at}
use Rattle.pd_files.proofs.list.read_further_lists.Given as goal

abbrev pub invariant-loop-alloc : goal.invariant-loop-alloc
invariant-loop-alloc l = StillRuns (item_step is_name list_at) (more_at is_name list_at l.fn.first l.symbols) l.lists l.rest × (length l.rest ≤ length l.symbols)

abbrev pub decreases-loop-alloc : goal.decreases-loop-alloc
decreases-loop-alloc l = length l.rest
