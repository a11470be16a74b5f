use Rattle.std.proofs.Common.{map, Some}
use Rattle.gim_shape.specs.Blocks.{number_of}
use Rattle.gim_shape.specs.Tables.{has_text, places_for}
use Rattle.gim_shape.specs.Phis.{item_faults}
use Rattle.gim_shape.specs.Shape.{jump_fault}
use Rattle.gim_shape.proofs.Judging.{front, behind, passed_on}
use Rattle.gim_shape.proofs.shape.check_block.Goals as goal
use Rattle.gim_text.specs.Occurrences.{targets_in_end}

pub returns-in_err-check_items : goal.returns-in_err-check_items
returns-in_err-check_items c =
    let source = c.args.source.now in
    let tables = c.args.tables.now in
    let fault = c.in_err-check_items.field-0.0 in
    passed_on _ fault c.from_residual.result c.from_residual.ensures
    (rw (c.in-Some.is) (front (item_faults source (places_for tables.jumps (number_of source c.args.block.now))
    c.args.may c.args.block.now.items)
    (map (jump_fault source (has_text tables.numbers)) (targets_in_end (Some c.in-Some.end))) fault
    (rw (c.predecessors-from.ensures, c.text.ensures, c.as_slice.ensures) at c.in_err-check_items.ensures)))

pub returns : goal.returns
returns c =
    let source = c.args.source.now in
    let tables = c.args.tables.now in
    rw (c.in-Some.is) (behind (item_faults source (places_for tables.jumps (number_of source c.args.block.now))
    c.args.may c.args.block.now.items)
    (map (jump_fault source (has_text tables.numbers)) (targets_in_end (Some c.in-Some.end))) c.check_end.result
    (rw (c.predecessors-from.ensures, c.text.ensures, c.as_slice.ensures) at c.in_ok-check_items.ensures) c.check_end.ensures)
