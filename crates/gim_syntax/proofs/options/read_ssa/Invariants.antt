-- What the loop of `read_ssa` keeps.
use Rattle.std.proofs.Common.{◌≡◌, ◌+◌, ◌≤◌, length}
use Rattle.gim_syntax.specs.Readers.{ssa_at, ssa_within}
use Rattle.gim_syntax.proofs.options.read_ssa.Given as goal

abbrev pub invariant-loop-rest : goal.invariant-loop-rest
invariant-loop-rest l = (ssa_at l.tokens ≡ ssa_within l.depth l.rest) × (l.depth + length l.rest ≤ length l.tokens)

abbrev pub decreases-loop-rest : goal.decreases-loop-rest
decreases-loop-rest l = length l.rest
