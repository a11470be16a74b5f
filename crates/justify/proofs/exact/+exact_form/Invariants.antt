use Rattle.std.proofs.Common.{drop}
use Rattle.std.specs.Prelude.{◌↔◌}
use Rattle.pm_term.specs.TermTrees.{tree_of, trees_of}
use Rattle.pm_term.specs.Trees.{AreWellTyped}
use Rattle.justify.specs.DefinedByRule.{HaveNode, HasExactForm}
use Rattle.justify.proofs.exact.+exact_form.Given as goal

abbrev pub invariant-have_exact_form-loop-left : goal.invariant-have_exact_form-loop-left
invariant-have_exact_form-loop-left l =
    (HaveNode (HasExactForm (tree_of l.term)) (trees_of (drop l.left-index l.terms)) ↔ HaveNode (HasExactForm (tree_of l.term)) (trees_of l.terms))
    × AreWellTyped (trees_of (drop l.left-index l.terms))
