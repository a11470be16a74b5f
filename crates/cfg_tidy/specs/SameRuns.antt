-- What it is that two functions run alike.
use Rattle.std.specs.Prelude.{◌≡◌, ℕ, Bool, true, false, List}
use Rattle.std.specs.List.{list_all}
use Rattle.pm_wide.specs.Types.{Word}
use Rattle.gim_ast.specs.declared.function.Function.{Function}
use Rattle.gim_ast.specs.Runs.{run_of}
use Rattle.cfg_tidy.specs.declared.change.Change.{Change}
use Rattle.cfg_tidy.specs.declared.change.Change.TheVariants as change

-- on all arguments and each fuel the two have the same outcome: they return the same word, are undefined at the same name, or are both still running
abbrev pub RunAlike : Function → Function → Type 0
RunAlike f g = (args : List Word) (fuel : ℕ) → run_of g args fuel ≡ run_of f args fuel

-- no phi was taken out
abbrev pub takes_no_phi : Change → Bool
takes_no_phi (change.Branch n) = true
takes_no_phi (change.Dropped n) = true
takes_no_phi (change.Phi x) = false

abbrev pub take_no_phi : List Change → Bool
take_no_phi = list_all takes_no_phi
