-- Phis that read one operand.
use Rattle.std.specs.Prelude.{◌≡◌, ℕ, IsTrue, ◌⊎◌}
use Rattle.std.specs.List.{AllByRecursion}
use Rattle.pm_wide.specs.declared.operand.Operand.{Operand}
use Rattle.gim_ast.specs.declared.function.Phi.{Phi}
use Rattle.gim_ast.specs.Functions.{is_name}

-- each argument of the phi is the operand, or the phi's own name
abbrev pub ReadsOnly : Operand → Phi → Type 0
ReadsOnly by phi =
    AllByRecursion (λ (arg : ℕ × Operand). (arg.1 ≡ by) ⊎ IsTrue (is_name phi.name arg.1)) phi.args
