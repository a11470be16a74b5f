-- The rows of `names` that a merge leaves.
use Rattle.std.specs.Prelude.{ℕ, ◌==◌, Bool, not, ◌||◌}
use Rattle.gim_ast.specs.declared.function.NameRow.{NameRow}
use Rattle.gim_changes.specs.Trimming.{is_empty_text}

-- the row is that of another name, or of an anonymous one, which is declared
abbrev pub row_is_left : ℕ → NameRow → Bool
row_is_left x row = not (row.version == x) || is_empty_text row.base
