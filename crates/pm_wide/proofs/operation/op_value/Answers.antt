use Rattle.pm_wide.proofs.Results.{operation_typed}
use Rattle.pm_wide.proofs.operation.op_value.Goals as goal

pub returns-clause-typed : goal.returns-clause-typed
returns-clause-typed c = operation_typed c.args.code c.args.ty c.args.args.now c.by_operands.result c.requires c.by_operands.ensures
