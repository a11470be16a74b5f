use Rattle.std.proofs.lemmas.Result.{err_from_is_err_and}
use Rattle.gim_typing.specs.Types.{places_of_block}
use Rattle.gim_shape.proofs.Judging.{front_of, behind_of}
use Rattle.gim_typing.proofs.types.check_blocks.Goals as goal

pub returns-in_err-check_block : goal.returns-in_err-check_block
returns-in_err-check_block c =
    let p = err_from_is_err_and c.from_residual.result c.from_residual.ensures.1 in
    rw (p.1, p.2) (front_of (places_of_block c.args.scope.now c.args.ty) c.args.blocks.now c.loop-block.block-index
    c.block-item.result _ _ c.loop-block-test.true c.block-item.is c.loop-block.invariant c.in_err-check_block.ensures)

pub loop-block-preserved : goal.loop-block-preserved
loop-block-preserved c =
    behind_of (places_of_block c.args.scope.now c.args.ty) c.args.blocks.now c.loop-block.block-index
    c.block-item.result _ c.loop-block-test.true c.block-item.is c.loop-block.invariant c.in_ok-check_block.ensures
