use Rattle.std.proofs.Common.{◌≡◌, drop}
use Rattle.pm_places.specs.FirstFaults.{first_fault}
use Rattle.gim_shape.specs.Phis.{item_faults}
use Rattle.gim_shape.proofs.phis.check_items.Given as goal

abbrev pub invariant-loop-item : goal.invariant-loop-item
invariant-loop-item l =
    first_fault (item_faults l.source l.from l.before_stmts (drop l.item-index l.items))
    ≡ first_fault (item_faults l.source l.from l.fn.may l.items)
