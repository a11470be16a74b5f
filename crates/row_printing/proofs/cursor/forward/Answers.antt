use Rattle.std.proofs.Common.{◌+◌, ◌∙◌, ap, take}
use Rattle.pm_places.specs.Places.{is_line_feed}
use Rattle.row_printing.proofs.Columns.{length-after_last}
use Rattle.row_printing.proofs.cursor.forward.Goals as goal

-- src/cursor.rt:52:5
pub loop-at-init : goal.loop-at-init
loop-at-init c = record {
  line = c.requires.stands.line_is;
  column = c.requires.stands.column_is ∙ ap (λ n. 1 + n) (length-after_last is_line_feed (take c.args.cursor.at c.args.source.now));
  line_fits = c.requires.stands.line_fits;
  column_fits = c.requires.stands.column_fits;
}
