-- What the loop over operands keeps.
use Rattle.std.proofs.Common.{◌≡◌, ◌-◌, map, drop}
use Rattle.pd_forms.specs.Results.{leaf_of, leaves}
use Rattle.pd_names.specs.Results.{nodes_among}
use Rattle.pd_names.proofs.results.+nodes.Given as goal

abbrev pub invariant-room_after_all-loop-operand : goal.invariant-room_after_all-loop-operand
invariant-room_after_all-loop-operand l =
    l.left - nodes_among (leaves (map leaf_of (drop l.operand-index l.operands))) ≡ l.room - nodes_among (leaves (map leaf_of l.operands))
