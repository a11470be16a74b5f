use Rattle.std.proofs.Common.{◌≡◌, ◌++◌, drop}
use Rattle.pattern_uses.specs.Uses.{labels, labels_from}
use Rattle.pattern_uses.proofs.use_labels.labels.Given as goal

abbrev pub invariant-loop-i : goal.invariant-loop-i
invariant-loop-i l = l.made ++ labels_from l.i (drop l.i l.names) ≡ labels l.names
