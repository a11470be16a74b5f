use Rattle.std.proofs.Common.{◌≡◌, ◌≤◌, ◌+◌, take}
use Rattle.std.specs.Prelude.{not, count_by}
use Rattle.std.specs.List.{suffix_len}
use Rattle.pm_places.specs.Places.{is_line_feed}
use Rattle.pm_places.proofs.line_column.Given as goal

abbrev pub invariant-loop-byte : goal.invariant-loop-byte
invariant-loop-byte l = record {
  line : l.line ≡ 1 + count_by is_line_feed (take l.byte-index l.byte-items);
  column : l.column ≡ 1 + suffix_len (λ byte. not (is_line_feed byte)) (take l.byte-index l.byte-items);
  line_fits : l.line ≤ 1 + l.byte-index;
  column_fits : l.column ≤ 1 + l.byte-index;
}
