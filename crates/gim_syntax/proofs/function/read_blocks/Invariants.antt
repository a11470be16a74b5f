-- What the loop of `read_blocks` keeps.
use Rattle.std.proofs.Common.{◌≤◌, length}
use Rattle.grammar.proofs.Loops.{StillRuns}
use Rattle.gim_statements.specs.BlockReaders.{block_at}
use Rattle.grammar.specs.Reading.{item_step}
use Rattle.gim_syntax.specs.Readers.{begins_block, blocks_at}
use Rattle.gim_syntax.proofs.function.read_blocks.Given as goal

abbrev pub invariant-loop-alloc : goal.invariant-loop-alloc
invariant-loop-alloc l = StillRuns (item_step begins_block block_at) (blocks_at l.tokens) l.found l.rest × (length l.rest ≤ length l.tokens)

abbrev pub decreases-loop-alloc : goal.decreases-loop-alloc
decreases-loop-alloc l = length l.rest
