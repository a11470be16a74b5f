-- Places of a source that are known with their line and their column.
use Rattle.std.specs.Prelude.{◌≡◌, ◌≤◌, ◌+◌, ℕ, List, length}
use Rattle.pm_places.specs.Places.{line_of, column_of}
use Rattle.row_printing.specs.declared.cursor.Cursor.{Cursor}

-- the cursor stands in the source, with the line and the column of its place
pub record StandsIn (source : List ℕ) (cursor : Cursor) : Type 0 where
  pub within : cursor.at ≤ length source
  pub line_is : cursor.line ≡ line_of source cursor.at
  pub column_is : cursor.column ≡ column_of source cursor.at
  -- a line and a column are behind one byte at most for each one before
  pub line_fits : cursor.line ≤ 1 + cursor.at
  pub column_fits : cursor.column ≤ 1 + cursor.at
