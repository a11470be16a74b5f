-- Passes: the functions of a GIMPLE file, changed one by one and printed, with lines that say what was changed.
use Rattle.std.specs.Prelude.{◌≡◌, ℕ, Bool, true, false, List, [], ◌∷◌, ◌++◌}
use Rattle.gim_ast.specs.declared.function.Function.{Function}
use Rattle.match_top.specs.Answer.{Answer, printed}
use Rattle.match_top.specs.Number.{Numbers}
use Rattle.match_top.specs.Tidy.{Tidies}
use Rattle.match_top.specs.declared.passes.Pass.{Pass}
use Rattle.match_top.specs.declared.passes.Pass.TheVariants.{Tidying, Numbering}
use Rattle.match_top.specs.declared.status.Status.{Status}
use Rattle.match_top.specs.declared.status.Status.TheVariants.{Done}

-- what a pass makes of one function, and its lines
abbrev pub Becomes : Pass → Function → Function → List ℕ → Type 0
Becomes Tidying f g lines = Tidies f g lines
Becomes Numbering f g lines = Numbers f g lines

-- each function becomes the one in its place, and the lines stand in the order of the functions
pub data AllBecome (pass : Pass) : List Function → List Function → List ℕ → Type 0 where
  no_function : AllBecome pass [] [] []
  one_more : (f g : Function) (lines : List ℕ) (fs gs : List Function) (more : List ℕ) → Becomes pass f g lines → AllBecome pass fs gs more
      → AllBecome pass (f ∷ fs) (g ∷ gs) (lines ++ more)

-- what is written: the functions that they become, and all lines
pub record Passes (pass : Pass) (fs : List Function) (answer : Answer) : Type 0 where
  pub functions : List Function
  pub report : List ℕ
  pub become : AllBecome pass fs functions report
  pub answered : answer ≡ printed functions report

-- how the work ends
abbrev pub pass_ends : Status → Bool
pass_ends Done = true
pass_ends status = false

-- a function, and the report before and after its lines
pub record Appends (pass : Pass) (f g : Function) (before after : List ℕ) : Type 0 where
  pub lines : List ℕ
  pub becomes : Becomes pass f g lines
  pub appended : after ≡ before ++ lines
