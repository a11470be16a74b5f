use Rattle.std.proofs.Common.{drop}
use Rattle.std.specs.Prelude.{◌↔◌}
use Rattle.pm_term.specs.TermTrees.{trees_of}
use Rattle.bit_tables.specs.TableClass.{AreConstant}
use Rattle.bit_tables.proofs.class.+constant.Given as goal

abbrev pub invariant-are_constant-loop-term : goal.invariant-are_constant-loop-term
invariant-are_constant-loop-term l =
    AreConstant l.width (trees_of (drop l.term-index l.terms)) ↔ AreConstant l.width (trees_of l.terms)
