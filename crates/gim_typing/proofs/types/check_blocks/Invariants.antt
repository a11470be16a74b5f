use Rattle.std.proofs.Common.{◌≡◌, drop}
use Rattle.std.specs.List.{flat_map}
use Rattle.pm_places.specs.FirstFaults.{first_fault}
use Rattle.gim_typing.specs.Types.{places_of_block}
use Rattle.gim_typing.proofs.types.check_blocks.Given as goal

abbrev pub invariant-loop-block : goal.invariant-loop-block
invariant-loop-block l =
    first_fault (flat_map (places_of_block l.scope l.ty) (drop l.block-index l.blocks))
    ≡ first_fault (flat_map (places_of_block l.scope l.ty) l.blocks)
