use Rattle.std.proofs.Common.{arith}
use Rattle.pd_ast.specs.Calls.{call_named}
use Rattle.cond_eval.specs.CValues.{c_value}
use Rattle.cond_eval.proofs.Arguments.{flagged_on_two, flagged_on_many}
use Rattle.cond_eval.proofs.flagged.of_call.Goals as goal

pub returns-in_default-2-clause-value : goal.returns-in_default-2-clause-value
returns-in_default-2-clause-value c =
    flagged_on_two (c_value c.args.env.now) (call_named c.args.name.now) c.args.args.now
    (grind (arith, c.in_default.len_at_least))
    (grind (arith, c.in_default.len_below))

pub returns-in_default-3-clause-value : goal.returns-in_default-3-clause-value
returns-in_default-3-clause-value c =
    flagged_on_many (c_value c.args.env.now) (call_named c.args.name.now) c.args.args.now
    (grind (arith, c.in_default.len_at_least))
