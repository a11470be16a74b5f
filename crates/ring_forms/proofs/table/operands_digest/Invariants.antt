use Rattle.std.proofs.Common.{◌≡◌, drop}
use Rattle.ring_forms.specs.Digests.{operands_digest}
use Rattle.ring_forms.proofs.table.operands_digest.Given as goal

abbrev pub invariant-loop-operand : goal.invariant-loop-operand
invariant-loop-operand l = operands_digest l.digest (drop l.operand-index l.operands) ≡ operands_digest l.from l.operands
