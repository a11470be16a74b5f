use Rattle.std.proofs.Common.{◌≡◌}
use Rattle.gim_changes.specs.Trimming.{row_stays}
use Rattle.gim_changes.proofs.LoopLemmas.{IsFiltered}
use Rattle.gim_tables.proofs.removal.trim_by.Given as goal

abbrev pub invariant-loop-i : goal.invariant-loop-i
invariant-loop-i l =
    IsFiltered (row_stays l.initial.function) l.i l.initial.function.names l.function.names
    × (l.function ≡ record l.initial.function { names = l.function.names })
