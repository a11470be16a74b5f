-- What the loop over operands keeps.
use Rattle.std.proofs.Common.{◌≡◌, map, drop}
use Rattle.pd_forms.specs.Results.{leaf_of, leaves}
use Rattle.pd_names.specs.Results.{leaves_fault}
use Rattle.pd_names.proofs.results.+leaves.Given as goal

abbrev pub invariant-check_leaves-loop-operand : goal.invariant-check_leaves-loop-operand
invariant-check_leaves-loop-operand l =
    leaves_fault l.source l.known l.sight (leaves (map leaf_of l.operands)) ≡ leaves_fault l.source l.known l.sight (leaves (map leaf_of (drop l.operand-index l.operands)))
