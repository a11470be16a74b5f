use Rattle.std.proofs.Common.{take}
use Rattle.std.specs.List.{AllZip}
use Rattle.gim_making.specs.Standing.{StandsFor}
use Rattle.gim_making.proofs.make.Given as goal

abbrev pub invariant-loop-tree : goal.invariant-loop-tree
invariant-loop-tree l = AllZip (StandsFor l.source) (take l.tree-index l.functions) l.made
