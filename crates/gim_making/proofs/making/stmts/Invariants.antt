use Rattle.std.proofs.Common.{◌≡◌, take}
use Rattle.std.specs.List.{flat_map}
use Rattle.gim_making.specs.Trees.{stmt_of}
use Rattle.gim_making.proofs.making.stmts.Given as goal

abbrev pub invariant-loop-item : goal.invariant-loop-item
invariant-loop-item l = l.stmts ≡ flat_map (stmt_of l.scope) (take l.item-index l.items)
