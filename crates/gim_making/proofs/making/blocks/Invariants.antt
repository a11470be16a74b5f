use Rattle.std.proofs.Common.{◌≡◌, take, map}
use Rattle.gim_making.specs.Trees.{block_of}
use Rattle.gim_making.proofs.making.blocks.Given as goal

abbrev pub invariant-loop-tree : goal.invariant-loop-tree
invariant-loop-tree l = l.blocks ≡ map (block_of l.scope) (take l.tree-index l.trees)
