-- What the loop of `read_functions` keeps.
use Rattle.std.proofs.Common.{◌≤◌, length}
use Rattle.grammar.proofs.Loops.{StillRuns}
use Rattle.grammar.specs.Reading.{item_step}
use Rattle.gim_syntax.specs.Readers.{any_token, function_at, file_at}
use Rattle.gim_syntax.proofs.file.read_functions.Given as goal

abbrev pub invariant-loop-alloc : goal.invariant-loop-alloc
invariant-loop-alloc l = StillRuns (item_step any_token function_at) (file_at l.tokens) l.functions l.rest × (length l.rest ≤ length l.tokens)

abbrev pub decreases-loop-alloc : goal.decreases-loop-alloc
decreases-loop-alloc l = length l.rest
