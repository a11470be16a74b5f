use Rattle.std.proofs.Common.{◌≡◌, drop}
use Rattle.std.specs.List.{flat_map}
use Rattle.pm_places.specs.FirstFaults.{first_fault}
use Rattle.gim_limits.specs.Limits.{function_limit_faults, limits_fault}
use Rattle.gim_limits.proofs.limits.check_limits.Given as goal

abbrev pub invariant-loop-function : goal.invariant-loop-function
invariant-loop-function l =
    first_fault (flat_map (function_limit_faults l.source) (drop l.function-index l.functions))
    ≡ limits_fault l.source l.functions
