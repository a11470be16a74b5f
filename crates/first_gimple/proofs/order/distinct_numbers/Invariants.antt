use Rattle.std.proofs.Common.{◌≡◌, ◌==◌, ◌≤◌, ℕ, true, nat_eq, length, drop}
use Rattle.std.specs.HashSet.{contains}
use Rattle.gim_ast.specs.WellFormed.{all_distinct}
use Rattle.first_gimple.specs.Rules.{has_number}
use Rattle.first_gimple.proofs.order.distinct_numbers.Given as goal

abbrev pub invariant-loop-at : goal.invariant-loop-at
invariant-loop-at l = (l.at ≤ length l.numbers) × (all_distinct ◌==◌ (drop l.at l.numbers) ≡ true) × ((q : ℕ) → contains nat_eq l.set q ≡ has_number q (drop l.at l.numbers))

abbrev pub decreases-loop-at : goal.decreases-loop-at
decreases-loop-at l = l.at
