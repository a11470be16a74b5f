use Rattle.std.proofs.Common.{◌≡◌, map}
use Rattle.pm_term.specs.Trees.{trees, AreWellTyped}
use Rattle.pm_term.specs.TermTrees.{tree_of}
use Rattle.pm_term.proofs.typed.terms.Given as goal

abbrev pub invariant-loop-typed : goal.invariant-loop-typed
invariant-loop-typed l = (map tree_of l.terms ≡ l.yielded) × AreWellTyped (trees l.yielded)
