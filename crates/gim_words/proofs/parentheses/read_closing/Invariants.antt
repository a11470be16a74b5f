-- What the loop of `read_closing` keeps.
use Rattle.std.proofs.Common.{◌≡◌, ◌+◌, ◌≤◌, length}
use Rattle.gim_words.specs.TokenReaders.{closing_at, closing_within}
use Rattle.gim_words.proofs.parentheses.read_closing.Given as goal

abbrev pub invariant-loop-rest : goal.invariant-loop-rest
invariant-loop-rest l = (closing_at l.tokens ≡ closing_within l.depth l.rest) × (l.depth + length l.rest ≤ length l.tokens)

abbrev pub decreases-loop-rest : goal.decreases-loop-rest
decreases-loop-rest l = length l.rest
