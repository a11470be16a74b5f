use Rattle.std.proofs.Common.{◌≡◌, ℕ, List, take}
use Rattle.gim_shape.specs.Blocks.{predecessors}
use Rattle.gim_shape.specs.Tables.{places_for}
use Rattle.gim_shape.proofs.blocks.jumps.Given as goal

abbrev pub invariant-loop-block : goal.invariant-loop-block
invariant-loop-block l = (q : List ℕ) → places_for l.jumps q ≡ predecessors l.source (take l.block-index l.blocks) q
