use Rattle.std.proofs.Common.{◌≡◌, ◌+◌, ◌-◌, ◌^◌, ◌≤◌, min, drop}
use Rattle.pm_term.specs.TermTrees.{trees_of}
use Rattle.pm_term.specs.Trees.{operations_of}
use Rattle.pm_term.proofs.count.+operators.Given as goal

abbrev pub invariant-operators_in-loop-term : goal.invariant-operators_in-loop-term
invariant-operators_in-loop-term l =
    (l.count ≤ 2 ^ 64 - 1)
    × (min (l.count + operations_of (trees_of (drop l.term-index l.terms))) (2 ^ 64 - 1) ≡ min (operations_of (trees_of l.terms)) (2 ^ 64 - 1))
