use Rattle.std.proofs.Common.{◌≡◌, true, drop}
use Rattle.std.specs.List.{flat_map}
use Rattle.pm_places.specs.FirstFaults.{first_fault}
use Rattle.gim_shape.specs.Tables.{has_text, places_for}
use Rattle.gim_shape.specs.Shape.{block_faults}
use Rattle.gim_shape.proofs.shape.check_rest.Given as goal

abbrev pub invariant-loop-block : goal.invariant-loop-block
invariant-loop-block l =
    first_fault (flat_map (block_faults l.source (has_text l.tables.numbers) (places_for l.tables.jumps) true)
    (drop l.block-index l.rest))
    ≡ first_fault (flat_map (block_faults l.source (has_text l.tables.numbers) (places_for l.tables.jumps) true) l.rest)
