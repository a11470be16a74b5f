use Rattle.std.proofs.Common.{◌≡◌, drop, map}
use Rattle.pm_places.specs.FirstFaults.{first_fault}
use Rattle.gim_typing.specs.Types.{place_of_arg}
use Rattle.gim_typing.proofs.types.check_args.Given as goal

abbrev pub invariant-loop-arg : goal.invariant-loop-arg
invariant-loop-arg l =
    first_fault (map (place_of_arg l.scope l.ty) (drop l.arg-index l.args))
    ≡ first_fault (map (place_of_arg l.scope l.ty) l.args)
