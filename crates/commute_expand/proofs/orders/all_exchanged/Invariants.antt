use Rattle.std.proofs.Common.{◌≡◌, map, take}
use Rattle.commute_expand.specs.Orders.{exchanged}
use Rattle.commute_expand.proofs.orders.all_exchanged.Given as goal

abbrev pub invariant-loop-args : goal.invariant-loop-args
invariant-loop-args l = l.made ≡ map exchanged (take l.args-index l.lists)
