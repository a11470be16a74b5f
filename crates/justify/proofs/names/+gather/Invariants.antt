use Rattle.std.proofs.Common.{◌≡◌, drop}
use Rattle.pm_term.specs.TermTrees.{trees_of}
use Rattle.pm_term.specs.Trees.{names_of}
use Rattle.bit_tables.specs.Spots.{with_names}
use Rattle.justify.proofs.names.+gather.Given as goal

abbrev pub invariant-gather_all-loop-term : goal.invariant-gather_all-loop-term
invariant-gather_all-loop-term l =
    with_names l.names (names_of (trees_of (drop l.term-index l.terms))) ≡ with_names l.initial.names (names_of (trees_of l.terms))
