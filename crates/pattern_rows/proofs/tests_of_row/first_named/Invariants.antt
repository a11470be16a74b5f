use Rattle.std.proofs.Common.{◌≡◌, drop}
use Rattle.pattern_rows.specs.TestRows.{first_place, is_named}
use Rattle.pattern_rows.proofs.tests_of_row.first_named.Given as goal

abbrev pub invariant-loop-spot : goal.invariant-loop-spot
invariant-loop-spot l = first_place (is_named l.name) (drop l.spot-index l.spots) ≡ first_place (is_named l.name) l.spots
