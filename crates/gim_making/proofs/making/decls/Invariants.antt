use Rattle.std.proofs.Common.{◌≡◌, take, map}
use Rattle.gim_making.specs.Trees.{decl_of}
use Rattle.gim_making.proofs.making.decls.Given as goal

abbrev pub invariant-loop-tree : goal.invariant-loop-tree
invariant-loop-tree l = l.decls ≡ map (decl_of l.source) (take l.tree-index l.trees)
