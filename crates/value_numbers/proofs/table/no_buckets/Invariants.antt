use Rattle.std.proofs.Common.{◌≡◌, ℕ, [], length, get_or}
use Rattle.value_numbers.proofs.table.no_buckets.Given as goal

abbrev pub invariant-loop : goal.invariant-loop
invariant-loop l = (length l.buckets ≡ l.counter) × ((b : ℕ) → get_or l.buckets b [] ≡ [])
