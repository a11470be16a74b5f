use Rattle.std.proofs.Common.{◌≡◌, take}
use Rattle.gim_ast.proofs.copying.copied_blocks.Given as goal

abbrev pub invariant-loop-block : goal.invariant-loop-block
invariant-loop-block l = l.copied ≡ take l.block-index l.blocks
