-- What it is that a change keeps every defined run.
use Rattle.std.specs.Prelude.{◌≡◌, ℕ, List}
use Rattle.std.specs.List.{AllByRecursion}
use Rattle.pm_wide.specs.Types.{Word, IsWord}
use Rattle.gim_ast.specs.declared.function.Function.{Function}
use Rattle.gim_ast.specs.Runs.{run_of, Undefined}
use Rattle.gim_run.specs.Arguments.{AreArguments}

-- one word for each parameter, a word of its type
pub record AreArgumentWords (f : Function) (args : List Word) : Type 0 where
  pub types : AreArguments f args
  pub words : AllByRecursion IsWord args

-- on all arguments and each fuel, where the run of the first isn't undefined, the run of the second
-- has the same outcome: it returns the same word, or it is still running. The two have the same
-- parameters
pub record KeepsDefinedRuns (f g : Function) : Type 0 where
  pub params : g.params ≡ f.params
  pub runs : (args : List Word) → AreArgumentWords f args → (fuel : ℕ) →
      ((x : ℕ) → run_of f args fuel ≡ Undefined x → ⊥) → run_of g args fuel ≡ run_of f args fuel
