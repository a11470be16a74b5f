use Rattle.std.proofs.Common.{drop}
use Rattle.std.specs.Prelude.{◌↔◌}
use Rattle.pm_term.specs.TermTrees.{trees_of}
use Rattle.bit_tables.specs.TableClass.{AreBuilt}
use Rattle.bit_tables.proofs.class.+built.Given as goal

abbrev pub invariant-are_built-loop-term : goal.invariant-are_built-loop-term
invariant-are_built-loop-term l =
    AreBuilt l.width (trees_of (drop l.term-index l.terms)) ↔ AreBuilt l.width (trees_of l.terms)
