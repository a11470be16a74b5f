use Rattle.std.proofs.Common.{◌≡◌, take}
use Rattle.std.specs.List.{filter_map}
use Rattle.gim_making.specs.Names.{name_place}
use Rattle.gim_making.proofs.places.names_among.Given as goal

abbrev pub invariant-loop-occurrence : goal.invariant-loop-occurrence
invariant-loop-occurrence l = l.places.items ≡ filter_map (name_place l.source) (take l.occurrence-index l.occurrences)
