use Rattle.std.proofs.Common.{◌≡◌, map, take, length}
use Rattle.gim_run.specs.Blocks.{phi_pair}
use Rattle.gim_run.specs.Slots.{env_of}
use Rattle.gim_run.proofs.steps.read_phis.Given as goal

-- so many are read
abbrev pub invariant-loop-at : goal.invariant-loop-at
invariant-loop-at l =
    (take l.at l.scratch ≡ map (phi_pair l.function l.from (env_of l.function.names l.slots)) (take l.at l.phis))
    × (length l.scratch ≡ length l.fn.scratch)
