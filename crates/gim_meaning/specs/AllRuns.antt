-- What it is that a change keeps every run, also where it is undefined.
use Rattle.std.specs.Prelude.{◌≡◌, ℕ, List}
use Rattle.pm_wide.specs.Types.{Word}
use Rattle.gim_ast.specs.declared.function.Function.{Function}
use Rattle.gim_ast.specs.Runs.{run_of}
use Rattle.gim_meaning.specs.KeptRuns.{AreArgumentWords}
use Rattle.gim_meaning.specs.ReachedPoints.{IsStuckAt}

-- on all arguments and each fuel the two have one outcome: they return the same word, are undefined
-- at the same name, or are both still running. They have the same parameters
pub record KeepsAllRuns (f g : Function) : Type 0 where
  pub params : g.params ≡ f.params
  pub runs : (args : List Word) → AreArgumentWords f args → (fuel : ℕ) →
      run_of g args fuel ≡ run_of f args fuel

-- no run comes to a statement of the name that has no value there
abbrev pub IsNeverStuckAt : Function → ℕ → Type 0
IsNeverStuckAt f x = (args : List Word) → AreArgumentWords f args → IsStuckAt f args x → ⊥
