use Rattle.std.proofs.Common.{◌≡◌, ℕ, ◌<◌, true, slice_index}
use Rattle.lexing.specs.Bytes.{is_word_byte}
use Rattle.first_gimple.proofs.tokens.run_len.Given as goal

abbrev pub invariant-loop-at : goal.invariant-loop-at
invariant-loop-at l = (k : ℕ) → k < l.at → is_word_byte (slice_index l.text k) ≡ true
