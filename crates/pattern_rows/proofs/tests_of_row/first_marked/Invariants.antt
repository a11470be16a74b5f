use Rattle.std.proofs.Common.{◌≡◌, drop}
use Rattle.pattern_rows.specs.TestRows.{first_place, is_marked}
use Rattle.pattern_rows.proofs.tests_of_row.first_marked.Given as goal

abbrev pub invariant-loop-spot : goal.invariant-loop-spot
invariant-loop-spot l = first_place (is_marked l.name) (drop l.spot-index l.spots) ≡ first_place (is_marked l.name) l.spots
