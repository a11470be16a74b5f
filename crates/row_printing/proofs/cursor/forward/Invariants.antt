use Rattle.std.proofs.Common.{◌≡◌, ◌≤◌, ◌+◌, take}
use Rattle.std.specs.Prelude.{not, count_by}
use Rattle.std.specs.List.{suffix_len}
use Rattle.pm_places.specs.Places.{is_line_feed}
use Rattle.row_printing.proofs.cursor.forward.Given as goal

abbrev pub invariant-loop-at : goal.invariant-loop-at
invariant-loop-at l = record {
  line : l.line ≡ 1 + count_by is_line_feed (take l.at l.source);
  column : l.column ≡ 1 + suffix_len (λ byte. not (is_line_feed byte)) (take l.at l.source);
  line_fits : l.line ≤ 1 + l.at;
  column_fits : l.column ≤ 1 + l.at;
}
