-- What the loop over patterns keeps.
use Rattle.std.proofs.Common.{◌≡◌, ◌-◌, map, drop}
use Rattle.pd_forms.specs.Trees.{pattern_of, operands}
use Rattle.pd_pattern_names.specs.Captures.{nodes_among}
use Rattle.pd_pattern_names.proofs.captures.+nodes.Given as goal

abbrev pub invariant-room_after_all-loop-pattern : goal.invariant-room_after_all-loop-pattern
invariant-room_after_all-loop-pattern l =
    l.left - nodes_among l.source l.known l.own (operands (map pattern_of (drop l.pattern-index l.patterns)))
    ≡ l.room - nodes_among l.source l.known l.own (operands (map pattern_of l.patterns))
