-- Removal of an unused name that no statement assigns, as of a phi, leaves every run as it is.
use Rattle.std.proofs.Common.{◌≡◌, ℕ, false, None, List, sym, ap, ◌∙◌}
use Rattle.std.proofs.lemmas.Option.{none-some}
use Rattle.pm_wide.specs.Types.{Word}
use Rattle.gim_ast.specs.declared.function.Function.{Function}
use Rattle.gim_ast.specs.Functions.{is_used, right_of}
use Rattle.gim_ast.specs.Runs.{run_of}
use Rattle.gim_ast.specs.WellFormed.{IsWellFormed}
use Rattle.gim_changes.specs.Removal.{without}
use Rattle.gim_meaning.proofs.Reached.{lies}
use Rattle.gim_meaning.proofs.RightSides.{right_at}
use Rattle.gim_meaning.proofs.UnstuckRemoval as unstuck

-- on these arguments each run is as before
pub without_runs_alike : (x : ℕ) (f : Function) → IsWellFormed f → is_used f x ≡ false →
    right_of f x ≡ None → (args : List Word) (fuel : ℕ) →
    run_of (without x f) args fuel ≡ run_of f args fuel
without_runs_alike x f well none no_right args = unstuck.without_runs_alike x f none args
    (λ stuck. none-some stuck.stmt.rhs
    (sym no_right ∙ ap (right_of f) (sym stuck.name)
    ∙ right_at f well stuck.block stuck.stmt stuck.stmts (lies stuck.reached)))
