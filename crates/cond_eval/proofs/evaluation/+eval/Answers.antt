use Rattle.std.proofs.Common.{arith}
use Rattle.pd_ast.specs.Calls.{call_named}
use Rattle.cond_eval.specs.CValues.{c_value}
use Rattle.cond_eval.proofs.Arguments.{on_none, on_many}
use Rattle.cond_eval.proofs.evaluation.+eval.Goals as goal
use Rattle.cond_eval.proofs.evaluation.+eval.Goals.{of_call-in_default-via-then-args-lt1, of_call-in_default-via-else-args-lt1+else-args-lt2+else-args-lt3+else-args-lt4}

pub of_call-returns-in_default-clause-value : goal.of_call-returns-in_default-clause-value
of_call-returns-in_default-clause-value t c =
    let env = c.args.env.now in
    let call = call_named c.args.name.now in
    elim c.in_default.branch [
      | of_call-in_default-via-then-args-lt1 w ↦
          on_none (c_value env) env.uses call c.args.args.now (grind arith)
      | of_call-in_default-via-else-args-lt1+else-args-lt2+else-args-lt3+else-args-lt4 w ↦
          on_many (c_value env) env.uses call c.args.args.now (grind arith)
    ]
