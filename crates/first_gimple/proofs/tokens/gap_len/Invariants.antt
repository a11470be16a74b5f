use Rattle.std.proofs.Common.{◌≡◌, drop}
use Rattle.first_gimple.specs.Pieces.{tokens_of}
use Rattle.first_gimple.proofs.tokens.gap_len.Given as goal

abbrev pub invariant-loop-at : goal.invariant-loop-at
invariant-loop-at l = tokens_of (drop l.at l.text) ≡ tokens_of l.text
