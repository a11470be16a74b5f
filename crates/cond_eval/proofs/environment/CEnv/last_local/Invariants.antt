use Rattle.std.proofs.Common.{◌≡◌, drop}
use Rattle.std.specs.Option.{option_or}
use Rattle.cond_eval.specs.Environments.{named}
use Rattle.cond_eval.proofs.environment.CEnv.last_local.Given as goal

abbrev pub invariant-loop-key : goal.invariant-loop-key
invariant-loop-key l =
    option_or (named (drop l.key-index l.self.locals) l.name) l.found ≡ named l.self.locals l.name
