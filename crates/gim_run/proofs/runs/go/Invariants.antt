use Rattle.std.proofs.Common.{◌≡◌, ◌-◌, length}
use Rattle.gim_ast.specs.Runs.{run_from}
use Rattle.gim_run.specs.Slots.{env_of, AreSlots}
use Rattle.gim_run.proofs.runs.go.Given as goal

-- with what is left of the fuel it goes on as the whole does
abbrev pub invariant-loop-entered : goal.invariant-loop-entered
invariant-loop-entered l =
    (run_from l.function (l.fuel - l.entered) (record { from = l.from; to = l.to; env = env_of l.function.names l.slots })
    ≡ run_from l.fn.function l.fn.fuel (record { from = 0; to = l.fn.entry; env = env_of l.fn.function.names l.fn.slots }))
    × AreSlots l.function l.slots
    × (length l.scratch ≡ length l.fn.scratch)
