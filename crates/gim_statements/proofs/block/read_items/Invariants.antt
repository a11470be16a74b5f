-- What the loop of `read_items` keeps.
use Rattle.std.proofs.Common.{◌≤◌, length}
use Rattle.grammar.proofs.Loops.{StillRuns}
use Rattle.grammar.specs.Reading.{item_step}
use Rattle.gim_statements.specs.ItemReaders.{item_at}
use Rattle.gim_statements.specs.BlockReaders.{begins_item, items_at}
use Rattle.gim_statements.proofs.block.read_items.Given as goal

abbrev pub invariant-loop-alloc : goal.invariant-loop-alloc
invariant-loop-alloc l = StillRuns (item_step begins_item item_at) (items_at l.tokens) l.items l.rest × (length l.rest ≤ length l.tokens)

abbrev pub decreases-loop-alloc : goal.decreases-loop-alloc
decreases-loop-alloc l = length l.rest
