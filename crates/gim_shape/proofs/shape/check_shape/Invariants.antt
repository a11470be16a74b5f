use Rattle.std.proofs.Common.{◌≡◌, drop}
use Rattle.std.specs.List.{flat_map}
use Rattle.pm_places.specs.FirstFaults.{first_fault}
use Rattle.gim_shape.specs.Shape.{function_faults, shape_fault}
use Rattle.gim_shape.proofs.shape.check_shape.Given as goal

abbrev pub invariant-loop-function : goal.invariant-loop-function
invariant-loop-function l =
    first_fault (flat_map (function_faults l.source) (drop l.function-index l.functions))
    ≡ shape_fault l.source l.functions
