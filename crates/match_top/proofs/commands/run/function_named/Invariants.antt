use Rattle.std.proofs.Common.{◌≡◌, drop}
use Rattle.match_top.specs.Run.{function_named}
use Rattle.match_top.proofs.commands.run.function_named.Given as goal

abbrev pub invariant-loop-function : goal.invariant-loop-function
invariant-loop-function l = function_named l.name l.functions ≡ function_named l.name (drop l.function-index l.functions)
