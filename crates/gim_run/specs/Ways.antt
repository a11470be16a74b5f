-- The code's words for where an end leads, and for a step.
use Rattle.gim_ast.specs.Runs.{Env, Lead}
use Rattle.gim_ast.specs.Runs as runs
use Rattle.gim_run.specs.declared.steps.Way.{Way}
use Rattle.gim_run.specs.declared.steps.Way.TheVariants.{To, Out}
use Rattle.gim_run.specs.declared.runs.Step.{Step}
use Rattle.gim_run.specs.declared.runs.Step.TheVariants.{Further, Ended}
use Rattle.gim_run.specs.Outcomes.{outcome}

abbrev pub lead_of_way : Way → Lead
lead_of_way (To to) = runs.To to
lead_of_way (Out w) = runs.Out w

abbrev pub step : Step → Env → runs.Step
step (Further from to) env = runs.Further (record { from = from; to = to; env = env })
step (Ended o) env = runs.Ended (outcome o)
