use Rattle.std.proofs.Common.{◌≡◌, ◌++◌, [], take, drop}
use Rattle.pattern_rows.specs.TestRows.{tests_from, holes_from}
use Rattle.pattern_rows.proofs.tests_of_row.row_of.Given as goal

abbrev pub invariant-loop-i : goal.invariant-loop-i
invariant-loop-i l =
    (l.tests ++ tests_from l.spots (take l.i l.spots) (drop l.i l.spots) ≡ tests_from l.spots [] l.spots)
    × (l.holes ++ holes_from l.spots (take l.i l.spots) (drop l.i l.spots) ≡ holes_from l.spots [] l.spots)
