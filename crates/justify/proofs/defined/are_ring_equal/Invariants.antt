use Rattle.std.proofs.Common.{drop}
use Rattle.std.specs.Prelude.{◌↔◌}
use Rattle.pm_term.specs.TermTrees.{trees_of}
use Rattle.pm_term.specs.Trees.{AreWellTyped}
use Rattle.justify.specs.DefinedByRule.{AreRingEqualInOrder}
use Rattle.justify.proofs.defined.are_ring_equal.Given as goal

abbrev pub invariant-loop-i : goal.invariant-loop-i
invariant-loop-i l =
    (AreRingEqualInOrder (trees_of (drop l.i l.a)) (trees_of (drop l.i l.b)) ↔ AreRingEqualInOrder (trees_of l.a) (trees_of l.b))
    × AreWellTyped (trees_of (drop l.i l.a)) × AreWellTyped (trees_of (drop l.i l.b))
