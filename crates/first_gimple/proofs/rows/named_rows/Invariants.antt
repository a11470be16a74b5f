use Rattle.std.proofs.Common.{◌≡◌, ◌++◌, map, take}
use Rattle.std.specs.List.{flat_map}
use Rattle.first_gimple.specs.Meaning.{local_row, rows_of_line}
use Rattle.first_gimple.proofs.rows.named_rows.Given as goal

abbrev pub invariant-loop-line : goal.invariant-loop-line
invariant-loop-line l = l.rows.items ≡ map local_row l.draft.locals ++ flat_map rows_of_line (take l.line-index l.draft.lines)
