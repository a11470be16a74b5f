use Rattle.std.proofs.Common.{◌≡◌, drop}
use Rattle.gim_ast.specs.Runs.{assign_each}
use Rattle.gim_run.specs.Slots.{env_of, AreSlots}
use Rattle.gim_run.proofs.steps.write_phis.Given as goal

-- what is left goes on as the whole does
abbrev pub invariant-loop-at : goal.invariant-loop-at
invariant-loop-at l =
    (assign_each (drop l.at l.read) (env_of l.function.names l.slots) ≡ assign_each l.fn.read (env_of l.fn.function.names l.fn.slots))
    × AreSlots l.function l.slots
