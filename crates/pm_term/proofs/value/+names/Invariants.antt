use Rattle.std.proofs.Common.{drop}
use Rattle.std.specs.Prelude.{◌↔◌}
use Rattle.pm_term.specs.Environments.{HaveNames}
use Rattle.pm_term.specs.TermTrees.{trees_of}
use Rattle.pm_term.proofs.value.+names.Given as goal

abbrev pub invariant-have_names-loop-term : goal.invariant-have_names-loop-term
invariant-have_names-loop-term l =
    HaveNames l.env.words (trees_of (drop l.term-index l.terms)) ↔ HaveNames l.env.words (trees_of l.terms)
