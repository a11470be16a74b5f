-- The listing of rows: a line for each, numbered from 1, with the place where its form begins.
use Rattle.std.specs.Prelude.{ℕ, ◌+◌, List, [], ◌∷◌, ◌++◌, codes, decimal}
use Rattle.pm_places.specs.Places.{line_of, column_of}
use Rattle.pd_ast.specs.declared.form.Row.{Row}
use Rattle.row_printing.specs.Patterns.{pattern_text}
use Rattle.row_printing.specs.Results.{result_text}

-- `L:C`, a line and a column
abbrev pub place_text : ℕ → ℕ → List ℕ
place_text line column = decimal line ++ codes ":" ++ decimal column

-- `#N L:C `, which stands before the trees of a row
unfoldable pub head_text : ℕ → ℕ → ℕ → List ℕ
head_text number line column =
    codes "#" ++ decimal number ++ codes " " ++ place_text line column ++ codes " "

-- `#N L:C PATTERN RESULT` of a row whose form begins there
unfoldable pub line_at : ℕ → ℕ → ℕ → Row → List ℕ
line_at number line column row =
    head_text number line column
    ++ pattern_text row.pattern ++ codes " " ++ result_text row.result ++ codes "\n"

-- the line and the column are those of the byte with which the form begins
abbrev pub row_line : List ℕ → ℕ → Row → List ℕ
row_line source number row = line_at number (line_of source row.at) (column_of source row.at) row

-- the lines of rows that are numbered from a number on
abbrev pub lines_from : List ℕ → ℕ → List Row → List ℕ
lines_from source number [] = []
lines_from source number (row ∷ rows) =
    row_line source number row ++ lines_from source (number + 1) rows

-- the lines of all rows
abbrev pub listing : List ℕ → List Row → List ℕ
listing source rows = lines_from source 1 rows
