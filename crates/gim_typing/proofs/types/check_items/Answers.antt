use Rattle.std.proofs.lemmas.Result.{err_from_is_err_and}
use Rattle.gim_typing.specs.Types.{places_of_item}
use Rattle.gim_shape.proofs.Judging.{front_of, behind_of}
use Rattle.gim_typing.proofs.types.check_items.Goals as goal

pub returns-in_err-check_item : goal.returns-in_err-check_item
returns-in_err-check_item c =
    let p = err_from_is_err_and c.from_residual.result c.from_residual.ensures.1 in
    rw (p.1, p.2) (front_of (places_of_item c.args.scope.now) c.args.items.now c.loop-item.item-index c.item-item.result
    _ _ c.loop-item-test.true c.item-item.is c.loop-item.invariant c.in_err-check_item.ensures)

pub loop-item-preserved : goal.loop-item-preserved
loop-item-preserved c =
    behind_of (places_of_item c.args.scope.now) c.args.items.now c.loop-item.item-index c.item-item.result _
    c.loop-item-test.true c.item-item.is c.loop-item.invariant c.in_ok-check_item.ensures
