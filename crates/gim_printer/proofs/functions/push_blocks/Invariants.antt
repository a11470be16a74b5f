use Rattle.std.proofs.Common.{◌≡◌, ◌++◌, take}
use Rattle.std.specs.List.{flat_map}
use Rattle.gim_printer.specs.Printing.{block_text}
use Rattle.gim_printer.proofs.functions.push_blocks.Given as goal

abbrev pub invariant-loop-block : goal.invariant-loop-block
invariant-loop-block l = l.out ≡ l.initial.out ++ flat_map (block_text l.function) (take l.block-index l.blocks)
