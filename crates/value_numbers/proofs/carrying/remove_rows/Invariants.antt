use Rattle.gim_changes.proofs.LoopLemmas.{IsFiltered}
use Rattle.value_numbers.specs.Rows.{row_is_left}
use Rattle.value_numbers.proofs.carrying.remove_rows.Given as goal

abbrev pub invariant-loop-i : goal.invariant-loop-i
invariant-loop-i l = IsFiltered (row_is_left l.name) l.i l.initial.rows l.rows
