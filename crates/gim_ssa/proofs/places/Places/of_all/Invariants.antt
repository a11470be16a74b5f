use Rattle.std.proofs.Common.{◌≡◌, ◌++◌, drop}
use Rattle.std.specs.List.{filter_map}
use Rattle.gim_ssa.specs.Places.{place_in}
use Rattle.gim_ssa.proofs.places.Places.of_all.Given as goal

-- the places so far, and those of what is left, are all
abbrev pub invariant-loop-number : goal.invariant-loop-number
invariant-loop-number l = l.found ++ filter_map (place_in l.self) (drop l.number-index l.numbers) ≡ filter_map (place_in l.self) l.numbers
