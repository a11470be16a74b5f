use Rattle.std.specs.List.{flat_map}
use Rattle.std.proofs.lemmas.Result.{err_from_is_err_and}
use Rattle.gim_typing.specs.Types.{places_of_item, places_of_end}
use Rattle.gim_shape.proofs.Judging.{front, behind}
use Rattle.gim_typing.proofs.types.check_block.Goals as goal

pub returns-in_err-check_items : goal.returns-in_err-check_items
returns-in_err-check_items c =
    let p = err_from_is_err_and c.from_residual.result c.from_residual.ensures.1 in
    rw (p.1, p.2, ← c.as_slice.ensures) (front (flat_map (places_of_item c.args.scope.now) c.as_slice.result.now)
    (places_of_end c.args.scope.now c.args.ty c.args.block.now.end) _ c.in_err-check_items.ensures)

pub returns : goal.returns
returns c =
    rw (← c.as_slice.ensures) (behind (flat_map (places_of_item c.args.scope.now) c.as_slice.result.now)
    (places_of_end c.args.scope.now c.args.ty c.args.block.now.end) c.check_end.result c.in_ok-check_items.ensures
    c.check_end.ensures)
