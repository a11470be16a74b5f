use Rattle.std.proofs.Common.{take}
use Rattle.std.specs.Prelude.{IsTrue}
use Rattle.std.specs.List.{list_all}
use Rattle.gim_run.specs.Blocks.{has_room}
use Rattle.gim_run.proofs.machine.most_phis.Given as goal

-- the phis of each block so far have room
abbrev pub invariant-loop-block : goal.invariant-loop-block
invariant-loop-block l = IsTrue (list_all (has_room l.most) (take l.block-index l.blocks))
