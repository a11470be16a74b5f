use Rattle.std.proofs.Common.{true}
use Rattle.gim_shape.specs.Tables.{has_text, places_for}
use Rattle.gim_shape.specs.Shape.{block_faults}
use Rattle.gim_shape.proofs.Judging.{front_of, behind_of, passed_on}
use Rattle.gim_shape.proofs.shape.check_rest.Goals as goal

pub returns-in_err-check_block : goal.returns-in_err-check_block
returns-in_err-check_block c =
    let tables = c.args.tables.now in
    let fault = c.in_err-check_block.field-0.0 in
    passed_on _ fault c.from_residual.result c.from_residual.ensures
    (front_of (block_faults c.args.source.now (has_text tables.numbers) (places_for tables.jumps) true) c.args.rest.now
    c.loop-block.block-index c.block-item.result _ fault
    c.loop-block-test.true c.block-item.is c.loop-block.invariant c.in_err-check_block.ensures)

pub loop-block-preserved : goal.loop-block-preserved
loop-block-preserved c =
    let tables = c.args.tables.now in
    behind_of (block_faults c.args.source.now (has_text tables.numbers) (places_for tables.jumps) true) c.args.rest.now
    c.loop-block.block-index c.block-item.result _
    c.loop-block-test.true c.block-item.is c.loop-block.invariant c.in_ok-check_block.ensures
