use Rattle.std.proofs.Common.{◌≡◌, ◌<◌, drop}
use Rattle.value_numbers.specs.Tables.{digest_from}
use Rattle.value_numbers.proofs.table.digest.Given as goal

abbrev pub invariant-loop-operand : goal.invariant-loop-operand
invariant-loop-operand l = (digest_from l.digest (drop l.operand-index l.operands) ≡ digest_from 0 l.operands) × (l.digest < 4294967296)
