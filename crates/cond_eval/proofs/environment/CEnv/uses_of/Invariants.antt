use Rattle.std.proofs.Common.{◌≡◌, drop}
use Rattle.std.specs.Option.{option_or}
use Rattle.cond_eval.specs.Environments.{uses_of}
use Rattle.cond_eval.proofs.environment.CEnv.uses_of.Given as goal

abbrev pub invariant-loop-key : goal.invariant-loop-key
invariant-loop-key l =
    option_or (uses_of (drop l.key-index l.self.uses) l.version) l.found
    ≡ uses_of l.self.uses l.version
