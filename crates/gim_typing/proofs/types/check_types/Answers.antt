use Rattle.std.proofs.lemmas.Result.{err_from_is_err_and}
use Rattle.gim_typing.specs.Types.{places_of_function, types_fault}
use Rattle.gim_shape.proofs.Judging.{front_of, behind_of}
use Rattle.gim_typing.proofs.types.check_types.Goals as goal

pub returns-in_err-check_function : goal.returns-in_err-check_function
unfolding types_fault
returns-in_err-check_function c =
    let p = err_from_is_err_and c.from_residual.result c.from_residual.ensures.1 in
    rw (p.1, p.2) (front_of (places_of_function c.args.source.now) c.args.functions.now c.loop-tree.tree-index
    c.tree-item.result _ _ c.loop-tree-test.true c.tree-item.is c.loop-tree.invariant c.in_err-check_function.ensures)

pub loop-tree-preserved : goal.loop-tree-preserved
loop-tree-preserved c =
    behind_of (places_of_function c.args.source.now) c.args.functions.now c.loop-tree.tree-index c.tree-item.result _
    c.loop-tree-test.true c.tree-item.is c.loop-tree.invariant c.in_ok-check_function.ensures
