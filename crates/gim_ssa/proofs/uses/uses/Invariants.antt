use Rattle.std.proofs.Common.{◌≡◌, map, take}
use Rattle.std.specs.List.{flat_map}
use Rattle.gim_ast.specs.Readable.{uses_in_block}
use Rattle.gim_ssa.specs.Uses.{seen}
use Rattle.gim_ssa.proofs.uses.uses.Given as goal

abbrev pub invariant-loop-block : goal.invariant-loop-block
invariant-loop-block l = l.uses.items ≡ map seen (flat_map uses_in_block (take l.block-index l.function.blocks))
