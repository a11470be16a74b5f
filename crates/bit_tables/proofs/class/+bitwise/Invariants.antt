use Rattle.std.proofs.Common.{drop}
use Rattle.std.specs.Prelude.{◌↔◌}
use Rattle.pm_term.specs.TermTrees.{trees_of}
use Rattle.bit_tables.specs.TableClass.{AreBitwise}
use Rattle.bit_tables.proofs.class.+bitwise.Given as goal

abbrev pub invariant-are_bitwise-loop-term : goal.invariant-are_bitwise-loop-term
invariant-are_bitwise-loop-term l =
    AreBitwise l.width (trees_of (drop l.term-index l.terms)) ↔ AreBitwise l.width (trees_of l.terms)
