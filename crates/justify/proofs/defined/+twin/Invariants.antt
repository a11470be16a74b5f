use Rattle.std.proofs.Common.{drop}
use Rattle.std.specs.Prelude.{◌↔◌}
use Rattle.pm_term.specs.TermTrees.{trees_of}
use Rattle.pm_term.specs.Trees.{AreWellTyped}
use Rattle.justify.specs.DefinedByRule.{HaveNode, IsTwin}
use Rattle.justify.proofs.defined.+twin.Given as goal

abbrev pub invariant-have_twin-loop-term : goal.invariant-have_twin-loop-term
invariant-have_twin-loop-term l =
    (HaveNode (IsTwin l.code l.ty (trees_of l.args)) (trees_of (drop l.term-index l.terms)) ↔ HaveNode (IsTwin l.code l.ty (trees_of l.args)) (trees_of l.terms))
    × AreWellTyped (trees_of (drop l.term-index l.terms))
