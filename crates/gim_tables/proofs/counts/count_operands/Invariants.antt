use Rattle.std.proofs.Common.{◌≡◌, ℕ, ◌+◌, min, drop}
use Rattle.std.specs.List.{count_by}
use Rattle.gim_ast.specs.Functions.{is_name}
use Rattle.gim_tables.specs.Told.{told, most}
use Rattle.gim_tables.proofs.counts.count_operands.Given as goal

-- what was counted so far, and the rest, are all
abbrev pub invariant-loop-operand : goal.invariant-loop-operand
invariant-loop-operand l = (q : ℕ) →
    min (told l.table q + count_by (is_name q) (drop l.operand-index l.operands)) most
    ≡ min (told l.fn.table q + count_by (is_name q) l.operands) most
