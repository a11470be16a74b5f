use Rattle.std.proofs.Common.{◌≡◌, map, take}
use Rattle.gim_ssa.specs.Plan.{number_of_block}
use Rattle.gim_ssa.proofs.plan.block_numbers.Given as goal

abbrev pub invariant-loop-block : goal.invariant-loop-block
invariant-loop-block l = l.numbers ≡ map number_of_block (take l.block-index l.blocks)
