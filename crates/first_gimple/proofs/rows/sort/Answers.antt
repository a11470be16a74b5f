use Rattle.std.proofs.Common.{rules}
use Rattle.std.proofs.lemmas.List.Sorted.{IsNonDecreasingBy-from_sort_by_key}
use Rattle.first_gimple.specs.Meaning.{version_of}
use Rattle.first_gimple.proofs.rows.sort.Goals as goal

pub returns-clause-sorted : goal.returns-clause-sorted
returns-clause-sorted c = IsNonDecreasingBy-from_sort_by_key version_of _ c.sort_unstable_by_key.ensures.sorted (λ a r q k. search rules)
