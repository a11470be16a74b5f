use Rattle.std.proofs.Common.{◌≡◌, ◌∷◌, drop, take, ◌-◌, length, arith}
use Rattle.gim_shape.specs.Tables.{has_text, places_for}
use Rattle.gim_shape.proofs.FaultsByTables.{body_by_tables}
use Rattle.gim_shape.proofs.shape.check_function.Goals as goal
use Rattle.gim_text.proofs.FrontsAndRests.{first_and_rest}

pub returns : goal.returns
returns c =
    let source = c.args.source.now in
    let blocks = c.as_slice-blocks.result.now in
    let entry = c.entry-item.result in
    let tables = c.in_ok-tables.tables in
    let rest = take (length blocks - 1) (drop 1 blocks) in
    let parts : blocks ≡ entry ∷ rest = first_and_rest blocks entry (omega arith) c.entry-item.is in
    rw (← c.as_slice-blocks.ensures)
    (body_by_tables source c.args.function.now.close blocks entry rest (has_text tables.numbers)
    (places_for tables.jumps) c.check_blocks.result parts
    c.in_ok-tables.ensures.numbers c.in_ok-tables.ensures.jumps c.check_blocks.ensures)
