-- What a pass writes runs as what it read.
use Rattle.std.specs.Prelude.{◌≡◌, ℕ, Option, Some, List}
use Rattle.std.specs.List.{AllByRecursion, AllZip}
use Rattle.gim_ast.specs.Readable.{IsValid}
use Rattle.gim_ast.specs.declared.function.Function.{Function}
use Rattle.gim_meaning.specs.AllRuns.{KeepsAllRuns}
use Rattle.gim_printer.specs.Printing.{text}
use Rattle.match_top.specs.Functions.{IsAccepted}

-- The held file stands for functions, and the text prints functions, one for each: they are valid, and on all arguments and with each
-- fuel they have the outcome of those that were read, undefined ones too.
pub record RunsAsRead (held : List ℕ → Option (List ℕ)) (name out : List ℕ) : Type 0 where
  pub source : List ℕ
  pub read : List Function
  pub written : List Function
  pub there : held name ≡ Some source
  pub accepted : IsAccepted source read
  pub printed : out ≡ text written
  pub valid : AllByRecursion IsValid written
  pub runs : AllZip KeepsAllRuns read written
