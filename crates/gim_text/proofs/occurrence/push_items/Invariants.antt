use Rattle.std.proofs.Common.{◌≡◌, ◌++◌, take}
use Rattle.std.specs.List.{flat_map}
use Rattle.gim_text.specs.Occurrences.{occurrences_of_item}
use Rattle.gim_text.proofs.occurrence.push_items.Given as goal

abbrev pub invariant-loop-item : goal.invariant-loop-item
invariant-loop-item l = l.out ≡ l.initial.out ++ flat_map occurrences_of_item (take l.item-index l.items)
