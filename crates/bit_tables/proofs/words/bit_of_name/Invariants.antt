use Rattle.std.proofs.Common.{◌≡◌, drop}
use Rattle.bit_tables.specs.Spots.{spot_word}
use Rattle.bit_tables.proofs.words.bit_of_name.Given as goal

abbrev pub invariant-loop-name : goal.invariant-loop-name
invariant-loop-name l =
    spot_word (drop l.name-index l.names) l.spot.place l.mask l.version l.ty ≡ spot_word l.names l.spot.place l.spot.mask l.version l.ty
