use Rattle.std.proofs.Common.{◌≡◌, ◌++◌, drop, map}
use Rattle.std.specs.Prelude.{IsTrue}
use Rattle.pattern_rows.specs.Patterns.{pattern_of, patterns, are_expanded}
use Rattle.pattern_rows.specs.Spots.{spots_below}
use Rattle.pattern_rows.proofs.spot.+spots.Given as goal

abbrev pub invariant-list_operands-loop-position : goal.invariant-list_operands-loop-position
invariant-list_operands-loop-position l =
    (l.spots ++ spots_below l.at l.position (patterns (map pattern_of (drop l.position l.operands))) ≡ l.initial.spots ++ spots_below l.at 0 (patterns (map pattern_of l.operands)))
    × IsTrue (are_expanded (patterns (map pattern_of (drop l.position l.operands))))
