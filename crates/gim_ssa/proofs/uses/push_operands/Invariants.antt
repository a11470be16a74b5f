use Rattle.std.proofs.Common.{◌≡◌, ◌++◌, drop}
use Rattle.gim_ssa.specs.Uses.{uses_of_names}
use Rattle.gim_ssa.proofs.uses.push_operands.Given as goal

-- the uses so far, and those of what is left, are all
abbrev pub invariant-loop-operand : goal.invariant-loop-operand
invariant-loop-operand l = l.uses.items ++ uses_of_names l.like (drop l.operand-index l.operands) ≡ l.fn.uses.items ++ uses_of_names l.like l.operands
