use Rattle.std.proofs.Common.{◌≡◌, take}
use Rattle.commute_expand.specs.Orders.{on_each}
use Rattle.commute_expand.proofs.orders.on_each.Given as goal

abbrev pub invariant-loop-args : goal.invariant-loop-args
invariant-loop-args l = l.made ≡ on_each l.op l.node.flags l.node.cap l.node.at l.node.len (take l.args-index l.lists)
