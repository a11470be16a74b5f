use Rattle.gim_making.specs.Standing.{StandsFor}
use Rattle.gim_making.proofs.ZippedLists.{zip_more}
use Rattle.gim_making.proofs.make.Goals as goal

pub loop-tree-preserved : goal.loop-tree-preserved
loop-tree-preserved c =
    rw c.in_ok-push.ensures.ok (zip_more (StandsFor c.args.source.now) c.args.functions.now c.loop-tree.made
    c.loop-tree.tree-index c.tree-item.result _ c.loop-tree-test.true c.tree-item.is c.loop-tree.invariant
    c.in_ok-function.ensures)
