-- What the loop of `check_entries` keeps.
use Rattle.std.proofs.Common.{◌≡◌, None, drop}
use Rattle.pd_pattern_names.specs.Known.{or_else}
use Rattle.pd_names.specs.Lists.{entries_fault, first_asked}
use Rattle.pd_names.proofs.lists.check_entries.Given as goal

abbrev pub invariant-loop-at : goal.invariant-loop-at
invariant-loop-at l =
    (entries_fault l.source l.lists None l.entries ≡ entries_fault l.source l.lists l.before (drop l.at-index l.entries))
    × (first_asked l.source l.lists l.entries ≡ or_else l.before (first_asked l.source l.lists (drop l.at-index l.entries)))
