use Rattle.std.proofs.Common.{◌≡◌, ◌≤◌, ℕ, List, true, length, drop}
use Rattle.std.specs.List.{list_any}
use Rattle.std.specs.Str.{bytes_eq}
use Rattle.std.specs.HashSet.{contains_by}
use Rattle.gim_ast.specs.WellFormed.{same_text, all_distinct}
use Rattle.first_gimple.proofs.rules.distinct_texts.Given as goal

abbrev pub invariant-loop-at : goal.invariant-loop-at
invariant-loop-at l = (l.at ≤ length l.texts) × (all_distinct same_text (drop l.at l.texts) ≡ true) × ((q : List ℕ) → contains_by (λ k. bytes_eq q k.now) l.set ≡ list_any (same_text q) (drop l.at l.texts))

abbrev pub decreases-loop-at : goal.decreases-loop-at
decreases-loop-at l = l.at
