use Rattle.std.proofs.Common.{take}
use Rattle.std.specs.List.{flat_map}
use Rattle.value_numbers.specs.Spots.{spots_of_block, ArePlaces}
use Rattle.value_numbers.proofs.places.places.Given as goal

abbrev pub invariant-loop-block : goal.invariant-loop-block
invariant-loop-block l = ArePlaces l.function l.places (flat_map spots_of_block (take l.block l.function.blocks))
