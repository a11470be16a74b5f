use Rattle.std.proofs.Common.{true, false}
use Rattle.std.specs.List.{flat_map}
use Rattle.gim_shape.specs.Tables.{has_text, places_for}
use Rattle.gim_shape.specs.Shape.{block_faults}
use Rattle.gim_shape.proofs.Judging.{front, behind, passed_on}
use Rattle.gim_shape.proofs.shape.check_blocks.Goals as goal

pub returns-in_err-check_block : goal.returns-in_err-check_block
returns-in_err-check_block c =
    let places = block_faults c.args.source.now (has_text c.args.tables.now.numbers) (places_for c.args.tables.now.jumps) in
    let fault = c.in_err-check_block.field-0.0 in
    passed_on _ fault c.from_residual.result c.from_residual.ensures
    (front (places false c.args.entry.now) (flat_map (places true) c.args.rest.now) fault c.in_err-check_block.ensures)

pub returns : goal.returns
returns c =
    let places = block_faults c.args.source.now (has_text c.args.tables.now.numbers) (places_for c.args.tables.now.jumps) in
    behind (places false c.args.entry.now) (flat_map (places true) c.args.rest.now) c.check_rest.result
    c.in_ok-check_block.ensures c.check_rest.ensures
