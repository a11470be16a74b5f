use Rattle.std.proofs.Common.{◌≡◌, drop}
use Rattle.std.specs.Prelude.{◌↔◌}
use Rattle.pm_term.specs.TermTrees.{trees_of}
use Rattle.pm_term.specs.Trees.{types_of}
use Rattle.justify.proofs.order.have_same_types.Given as goal

abbrev pub invariant-loop-i : goal.invariant-loop-i
invariant-loop-i l = (types_of (trees_of (drop l.i l.ys)) ≡ types_of (trees_of (drop l.i l.xs))) ↔ (types_of (trees_of l.ys) ≡ types_of (trees_of l.xs))
