use Rattle.std.proofs.Common.{◌≡◌, ◌++◌, take}
use Rattle.std.specs.List.{flat_map}
use Rattle.gim_text.specs.Occurrences.{occurrences_of_block}
use Rattle.gim_text.proofs.occurrence.push_blocks.Given as goal

abbrev pub invariant-loop-block : goal.invariant-loop-block
invariant-loop-block l = l.out ≡ l.initial.out ++ flat_map occurrences_of_block (take l.block-index l.blocks)
