-- The code's words for an outcome.
use Rattle.gim_ast.specs.Runs as runs
use Rattle.gim_run.specs.declared.runs.Outcome.{Outcome}
use Rattle.gim_run.specs.declared.runs.Outcome.TheVariants.{Returned, Undefined, Running}

abbrev pub outcome : Outcome → runs.Outcome
outcome (Returned w) = runs.Returned w
outcome (Undefined name) = runs.Undefined name
outcome Running = runs.Running
