-- What the loop of `check_lists` keeps.
use Rattle.std.proofs.Common.{◌≡◌, drop}
use Rattle.pd_names.specs.Lists.{lists_fault, under}
use Rattle.pd_names.proofs.lists.check_lists.Given as goal

abbrev pub invariant-loop-list : goal.invariant-loop-list
invariant-loop-list l =
    (lists_fault l.source l.initial.known l.lists ≡ lists_fault l.source l.known (drop l.list-index l.lists))
    × (under l.source l.initial.known l.lists ≡ under l.source l.known (drop l.list-index l.lists))
