use Rattle.std.proofs.Common.{◌≤◌, length, get_or, arith}
use Rattle.gim_run.proofs.StartLemmas.{room_on}
use Rattle.gim_run.proofs.machine.most_phis.Goals as goal
use Rattle.gim_run.proofs.machine.most_phis.Goals.{then-count-most, else-count-most}

pub loop-block-preserved : goal.loop-block-preserved
loop-block-preserved c =
    let wider : c.loop-block.most ≤ c.if-count-most.most = elim c.if-count-most.branch [ then-count-most w ↦ omega arith | else-count-most w ↦ omega arith ] in
    let fits : length (get_or c.args.blocks.now c.loop-block.block-index c.block-item.result).phis ≤ c.if-count-most.most = elim c.if-count-most.branch [ then-count-most w ↦ grind arith | else-count-most w ↦ grind arith ] in
    room_on c.args.blocks.now c.loop-block.block-index c.block-item.result c.loop-block.most c.if-count-most.most c.loop-block-test.true wider fits c.loop-block.invariant
