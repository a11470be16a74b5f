use Rattle.std.proofs.Common.{drop}
use Rattle.std.specs.Prelude.{◌↔◌}
use Rattle.pm_term.specs.TermTrees.{trees_of}
use Rattle.bit_tables.specs.TableClass.{HasConstant}
use Rattle.bit_tables.proofs.class.has_constant.Given as goal

abbrev pub invariant-loop-term : goal.invariant-loop-term
invariant-loop-term l =
    HasConstant l.width (trees_of (drop l.term-index l.terms)) ↔ HasConstant l.width (trees_of l.terms)
