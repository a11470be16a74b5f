use Rattle.justify.proofs.MethodLaws.{method_refines}
use Rattle.justify.proofs.Results.{if_ok}
use Rattle.justify.proofs.method.justify.Goals as goal

pub returns-clause-refines : goal.returns-clause-refines
returns-clause-refines c =
    if_ok _ _ c.first_method.result (λ m h. method_refines c.args.instance.now.left c.args.instance.now.right c.term-left_typed.ensures.well_typed c.term-right_typed.ensures.well_typed m h) c.first_method.ensures
