use Rattle.std.proofs.Common.{get_or, ap, ◌∙◌}
use Rattle.gim_changes.proofs.Unused.{block_turn}
use Rattle.gim_tables.proofs.removal.last_unused.Goals as goal

pub loop-block-preserved : goal.loop-block-preserved
loop-block-preserved c =
    let is = c.block-item.is ∙ ap (λ xs. get_or xs c.loop-block.block-index c.block-item.result) c.as_slice-block-items.ensures in
    let turn = block_turn c.args.function.now c.loop-block.found c.args.function.now.blocks c.loop-block.block-index c.block-item.result
    (rw (← c.as_slice-block-items.ensures) c.loop-block-test.true) is in
    cc
