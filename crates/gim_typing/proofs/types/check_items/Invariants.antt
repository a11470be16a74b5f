use Rattle.std.proofs.Common.{◌≡◌, drop}
use Rattle.std.specs.List.{flat_map}
use Rattle.pm_places.specs.FirstFaults.{first_fault}
use Rattle.gim_typing.specs.Types.{places_of_item}
use Rattle.gim_typing.proofs.types.check_items.Given as goal

abbrev pub invariant-loop-item : goal.invariant-loop-item
invariant-loop-item l =
    first_fault (flat_map (places_of_item l.scope) (drop l.item-index l.items))
    ≡ first_fault (flat_map (places_of_item l.scope) l.items)
