-- What the tables of names tell.
use Rattle.std.specs.Prelude.{◌≡◌, ℕ, ◌^◌, ◌-◌, min, nat_lt, Bool, ◌||◌, Option, List, nat_eq, unwrap_or, is_some}
use Rattle.std.specs.HashMap.{HashMap, get}
use Rattle.std.specs.Option.{option_map}
use Rattle.pm_wide.specs.Types.{Ty}
use Rattle.pm_wide.specs.declared.operand.Operand.{Operand}
use Rattle.gim_ast.specs.declared.function.Function.{Function}
use Rattle.gim_ast.specs.declared.function.NameRow.{NameRow}
use Rattle.gim_ast.specs.declared.function.Rhs.{Rhs}
use Rattle.gim_ast.specs.declared.function.Stmt.{Stmt}
use Rattle.gim_ast.specs.Functions.{first_where, uses_of}
use Rattle.gim_ast.specs.WellFormed.{is_assigned}
use Rattle.gim_changes.specs.Trimming.{is_empty_text}
use Rattle.gim_terms.specs.Lookups.{assigns, is_row_of}
use Rattle.gim_terms.specs.Targets.{type_of_name}

-- ---- entries

-- where the counts of the machine end
abbrev pub most : ℕ
most = 2 ^ 32 - 1

-- the count of a name: 0 where the table has none
abbrev pub told : {S : Type 0} → HashMap ℕ ℕ S → ℕ → ℕ
told table q = unwrap_or (get nat_eq table q) 0

-- the table has the name
abbrev pub has : {X S : Type 0} → HashMap ℕ X S → ℕ → Bool
has table q = is_some (get nat_eq table q)

-- ---- parts of a function

abbrev pub second : ℕ × Operand → Operand
second arg = arg.1

-- the right side of the first of these statements that assigns a name
abbrev pub right_among : ℕ → List Stmt → Option Rhs
right_among q stmts = option_map (λ (stmt : Stmt). stmt.rhs) (first_where (assigns q) stmts)

-- the type of the first of these rows that is that of a version
abbrev pub type_among : ℕ → List NameRow → Option Ty
type_among q rows = option_map (λ (row : NameRow). row.ty) (first_where (is_row_of q) rows)

-- ---- a function

abbrev pub TellsTypes : {S : Type 0} → HashMap ℕ Ty S → Function → Type 0
TellsTypes table f = (q : ℕ) → get nat_eq table q ≡ type_of_name f q

-- counts are right up to where those of the machine end
abbrev pub TellsUses : {S : Type 0} → HashMap ℕ ℕ S → Function → Type 0
TellsUses table f = (q : ℕ) → min (told table q) most ≡ min (uses_of f q) most

abbrev pub TellsAssigned : {S : Type 0} → HashMap ℕ Bool S → Function → Type 0
TellsAssigned table f = (q : ℕ) → has table q ≡ is_assigned f q

-- a row of `names` is kept, as the tables tell
abbrev pub row_stays_by : {S T : Type 0} → HashMap ℕ ℕ S → HashMap ℕ Bool T → NameRow → Bool
row_stays_by counts names row = (has names row.version || nat_lt 0 (told counts row.version)) || is_empty_text row.base
