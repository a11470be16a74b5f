-- The words of names in slots: one for each row of `names`, at its place.
use Rattle.std.specs.Prelude.{ℕ, zero, suc, ◌≡◌, ◌==◌, Bool, ◌&&◌, if◌then◌else◌, Option, None, Some, List, [], ◌∷◌, map}
use Rattle.std.specs.List.{list_all}
use Rattle.pm_wide.specs.Types.{Ty, Word, bool_type}
use Rattle.gim_ast.specs.declared.function.Function.{Function}
use Rattle.gim_ast.specs.declared.function.NameRow.{NameRow}
use Rattle.gim_ast.specs.declared.function.Stmt.{Stmt}
use Rattle.gim_ast.specs.Functions.{operands_of_stmt}
use Rattle.gim_ast.specs.WellFormed.{operand_holds, stmt_fits}
use Rattle.gim_ast.specs.Runs.{Env, zero_of, Passage, On, Stuck}

-- the place of the first row of the version, or the number of rows
abbrev pub place_of : List NameRow → ℕ → ℕ
place_of [] x = zero
place_of (row ∷ rows) x = if row.version == x then zero else suc (place_of rows x)

-- the words that slots give to versions
abbrev pub env_of : List NameRow → List Word → Env
env_of [] words = λ x. zero_of bool_type
env_of (row ∷ rows) [] = λ x. zero_of bool_type
env_of (row ∷ rows) (w ∷ words) = λ x. if row.version == x then w else env_of rows words x

abbrev pub types_of_rows : List NameRow → List Ty
types_of_rows rows = map (λ (row : NameRow). row.ty) rows

abbrev pub types_of_words : List Word → List Ty
types_of_words words = map (λ (w : Word). w.ty) words

-- one slot for each row, of its type
abbrev pub AreSlots : Function → List Word → Type 0
AreSlots f words = types_of_words words ≡ types_of_rows f.names

-- a statement is well typed, and so are the operands in it
abbrev pub stmt_holds : Function → Stmt → Bool
stmt_holds f stmt = stmt_fits f stmt && list_all (operand_holds f) (operands_of_stmt stmt)

-- what a search for the first stuck statement tells
abbrev pub passage_of : Option ℕ → Env → Passage
passage_of None env = On env
passage_of (Some x) env = Stuck x
