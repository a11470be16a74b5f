use Rattle.std.proofs.Common.{◌≡◌, drop}
use Rattle.std.specs.List.{flat_map}
use Rattle.pm_places.specs.FirstFaults.{first_fault}
use Rattle.gim_typing.specs.Types.{places_of_function}
use Rattle.gim_typing.proofs.types.check_types.Given as goal

abbrev pub invariant-loop-tree : goal.invariant-loop-tree
invariant-loop-tree l =
    first_fault (flat_map (places_of_function l.source) (drop l.tree-index l.functions))
    ≡ first_fault (flat_map (places_of_function l.source) l.functions)
