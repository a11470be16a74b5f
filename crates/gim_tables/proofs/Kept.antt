-- Rows of `names` that stay, by the tables.
use Rattle.std.proofs.Common.{◌≡◌, Bool, ◌||◌, refl}
use Rattle.std.specs.HashMap.{HashMap}
use Rattle.gim_ast.specs.declared.function.Function.{Function}
use Rattle.gim_ast.specs.declared.function.NameRow.{NameRow}
use Rattle.gim_changes.specs.Trimming.{row_stays, is_empty_text}
use Rattle.gim_tables.specs.Told.{TellsUses, TellsAssigned, row_stays_by}
use Rattle.gim_tables.proofs.Counting.{used_by_count}
use Rattle.std.proofs.Common.{ℕ}

either : (a b c d e : Bool) → a ≡ b → c ≡ d → ((a || c) || e) ≡ ((b || d) || e)
either a b c d e first second = rw first (rw second refl)

pub stays_by : {S T : Type 0} (counts : HashMap ℕ ℕ S) (names : HashMap ℕ Bool T) (f : Function) (row : NameRow)
    → TellsUses counts f → TellsAssigned names f → row_stays_by counts names row ≡ row_stays f row
stays_by counts names f row uses assigned =
    either _ _ _ _ (is_empty_text row.base) (assigned row.version) (used_by_count counts f row.version uses)
