-- The line and the column of a byte of a text, for people.
use Rattle.std.specs.Prelude.{ℕ, ◌+◌, ◌==◌, Bool, List, length, take, count_by}
use Rattle.std.specs.List.{after_last}

-- the byte is a line feed, which ends a line
abbrev pub is_line_feed : ℕ → Bool
is_line_feed byte = byte == 10

-- one more than the line feeds before byte number at
abbrev pub line_of : List ℕ → ℕ → ℕ
line_of source at = 1 + count_by is_line_feed (take at source)

-- one more than the bytes from the last line feed before byte number at, or from the beginning where
-- there is none, up to that byte
abbrev pub column_of : List ℕ → ℕ → ℕ
column_of source at = 1 + length (after_last is_line_feed (take at source))
