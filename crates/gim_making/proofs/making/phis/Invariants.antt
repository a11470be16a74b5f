use Rattle.std.proofs.Common.{◌≡◌, take}
use Rattle.std.specs.List.{flat_map}
use Rattle.gim_making.specs.Trees.{phi_of}
use Rattle.gim_making.proofs.making.phis.Given as goal

abbrev pub invariant-loop-item : goal.invariant-loop-item
invariant-loop-item l = l.phis ≡ flat_map (phi_of l.scope) (take l.item-index l.items)
