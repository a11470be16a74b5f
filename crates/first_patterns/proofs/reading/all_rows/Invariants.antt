use Rattle.std.proofs.Common.{◌≡◌, ◌-◌, ◌≤◌, length}
use Rattle.first_patterns.specs.Reading.{rows_at, rows_of}
use Rattle.first_patterns.proofs.Loop.{with_front}
use Rattle.first_patterns.proofs.reading.all_rows.Given as goal

abbrev pub invariant-loop : goal.invariant-loop
invariant-loop l = record {
  read : with_front l.rows (rows_at (65536 - l.counter) (length l.source) l.rest) ≡ rows_of l.source;
  within : length l.rest ≤ length l.source;
}
