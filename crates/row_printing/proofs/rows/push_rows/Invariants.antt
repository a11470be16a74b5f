use Rattle.std.proofs.Common.{◌≡◌, ◌+◌, ◌++◌, drop}
use Rattle.row_printing.specs.Cursors.{StandsIn}
use Rattle.row_printing.specs.Listing.{lines_from}
use Rattle.row_printing.proofs.rows.push_rows.Given as goal

abbrev pub invariant-loop-i : goal.invariant-loop-i
invariant-loop-i l = record {
  out : l.out ++ lines_from l.source (l.i + 1) (drop l.i l.rows) ≡ l.initial.out ++ lines_from l.source 1 l.rows;
  stands : StandsIn l.source l.cursor;
}
