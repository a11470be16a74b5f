-- Removal of an unused name at which the run on these arguments is never stuck leaves each run as it is.
use Rattle.std.proofs.Common.{◌≡◌, ℕ, Bool, true, false, cond, eqb, None, List, ◌∷◌}
use Rattle.std.proofs.Common.{not, refl, ◌∙◌}
use Rattle.std.specs.Prelude.{filter}
use Rattle.std.proofs.lemmas.Bool.{eqb-true}
use Rattle.pm_wide.specs.Types.{Word}
use Rattle.gim_ast.specs.declared.function.Function.{Function}
use Rattle.gim_ast.specs.declared.function.Block.{Block}
use Rattle.gim_ast.specs.declared.function.Stmt.{Stmt}
use Rattle.gim_ast.specs.Functions.{is_used}
use Rattle.gim_ast.specs.Runs.{Stuck, pass_stmts, run_of}
use Rattle.gim_changes.specs.Removal.{stmt_stays, without_in_block, without}
use Rattle.gim_meaning.specs.ReachedPoints.{IsStuckAt}
use Rattle.gim_meaning.proofs.ExactRuns.{IsStuckAlike, SticksAlike, run_as_before, stuck_alike, sticks_at}
use Rattle.gim_meaning.proofs.ReadableValues.{IsOther}
use Rattle.gim_meaning.proofs.RemovalRuns.{goes_without, same_there, steps_without}

module _ (x : ℕ) (f : Function) (none : is_used f x ≡ false) (args : List Word)
    (never : IsStuckAt f args x → ⊥) where
  sticks_without : (block : Block) →
      SticksAlike f (without x f) (IsOther x) args block (filter (stmt_stays x))
  sticks_without block stmt stmts e d reached agree stuck = by (eqb stmt.name x) refl
    where
      rest : List Stmt
      rest = filter (stmt_stays x) stmts

      by : (b : Bool) → eqb stmt.name x ≡ b →
          pass_stmts (without x f) (cond (not b) (stmt ∷ rest) rest) d ≡ Stuck stmt.name
      by true is = absurd (never (record {
        block = block;
        stmt = stmt;
        stmts = stmts;
        env = e;
        reached = reached;
        name = eqb-true stmt.name x is;
        none = stuck;
      }))
      by false is = sticks_at (without x f) stmt rest d
          (same_there x f none args block stmt stmts e d reached agree ∙ stuck)

  -- on these arguments each run is as before
  pub without_runs_alike : (fuel : ℕ) → run_of (without x f) args fuel ≡ run_of f args fuel
  unfolding without
  without_runs_alike = run_as_before f (without x f) (without_in_block x) (λ block. refl) refl
      (IsOther x) args (goes_without x f none args)
      (λ block e d y reached is agree.
      stuck_alike f (without x f) (IsOther x) args block (filter (stmt_stays x))
      (steps_without x f none args block) (sticks_without block) y block.stmts e d reached is
      agree)
