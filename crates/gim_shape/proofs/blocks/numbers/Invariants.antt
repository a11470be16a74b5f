use Rattle.std.proofs.Common.{take}
use Rattle.gim_shape.specs.Blocks.{numbers_of}
use Rattle.gim_shape.specs.Tables.{HasTexts}
use Rattle.gim_shape.proofs.blocks.numbers.Given as goal

abbrev pub invariant-loop-block : goal.invariant-loop-block
invariant-loop-block l = HasTexts l.set (numbers_of l.source (take l.block-index l.blocks))
