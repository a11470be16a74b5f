use Rattle.std.proofs.Common.{drop}
use Rattle.std.specs.Prelude.{◌↔◌}
use Rattle.pm_term.specs.TermTrees.{tree_of, trees_of}
use Rattle.pm_term.specs.Trees.{AreWellTyped}
use Rattle.justify.specs.DefinedByRule.{AreDefined}
use Rattle.justify.proofs.defined.+defined.Given as goal

abbrev pub invariant-are_defined-loop-term : goal.invariant-are_defined-loop-term
invariant-are_defined-loop-term l =
    (AreDefined (tree_of l.left) (trees_of (drop l.term-index l.terms)) ↔ AreDefined (tree_of l.left) (trees_of l.terms))
    × AreWellTyped (trees_of (drop l.term-index l.terms))
