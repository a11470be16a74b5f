use Rattle.std.proofs.Common.{◌≡◌, ℕ, ◌==◌, drop}
use Rattle.pm_wide.specs.declared.operand.Operand.{Operand}
use Rattle.gim_ast.specs.Functions.{first_where}
use Rattle.gim_run.proofs.steps.phi.Given as goal

-- what is left finds what the whole does
abbrev pub invariant-loop-at : goal.invariant-loop-at
invariant-loop-at l =
    first_where (λ (arg : ℕ × Operand). arg.0 == l.from) (drop l.at l.args) ≡ first_where (λ (arg : ℕ × Operand). arg.0 == l.from) l.args
