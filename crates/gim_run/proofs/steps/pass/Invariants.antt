use Rattle.std.proofs.Common.{◌≡◌, drop}
use Rattle.gim_ast.specs.Runs.{pass_stmts}
use Rattle.gim_run.specs.Slots.{env_of, AreSlots}
use Rattle.gim_run.proofs.steps.pass.Given as goal

-- what is left goes on as the whole does
abbrev pub invariant-loop-at : goal.invariant-loop-at
invariant-loop-at l =
    (pass_stmts l.function (drop l.at l.stmts) (env_of l.function.names l.slots) ≡ pass_stmts l.fn.function l.fn.stmts (env_of l.fn.function.names l.fn.slots))
    × AreSlots l.function l.slots
