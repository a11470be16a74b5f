use Rattle.gim_limits.specs.Limits.{function_limit_faults}
use Rattle.gim_shape.proofs.Judging.{front_of, behind_of, passed_on}
use Rattle.gim_limits.proofs.limits.check_limits.Goals as goal

pub returns-in_err-check_function : goal.returns-in_err-check_function
returns-in_err-check_function c =
    let fault = c.in_err-check_function.field-0.0 in
    passed_on _ fault c.from_residual.result c.from_residual.ensures
    (front_of (function_limit_faults c.args.source.now) c.args.functions.now c.loop-function.function-index c.function-item.result _ fault
    c.loop-function-test.true c.function-item.is c.loop-function.invariant c.in_err-check_function.ensures)

pub loop-function-preserved : goal.loop-function-preserved
loop-function-preserved c =
    behind_of (function_limit_faults c.args.source.now) c.args.functions.now c.loop-function.function-index c.function-item.result _
    c.loop-function-test.true c.function-item.is c.loop-function.invariant c.in_ok-check_function.ensures
