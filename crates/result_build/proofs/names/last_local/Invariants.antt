use Rattle.std.proofs.Common.{◌≡◌, drop}
use Rattle.std.specs.Option.{option_or}
use Rattle.cond_eval.specs.Environments.{named}
use Rattle.result_build.proofs.names.last_local.Given as goal

abbrev pub invariant-loop-key : goal.invariant-loop-key
invariant-loop-key l =
    option_or (named (drop l.key-index l.locals) l.name) l.found ≡ named l.locals l.name
