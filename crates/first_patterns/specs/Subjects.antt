-- Subjects: what a rewriting looks at, one after another.
use Rattle.std.specs.Prelude.{ℕ, List, [], ◌∷◌, ◌++◌, map, Option, Some}
use Rattle.std.specs.List.{flat_map}
use Rattle.std.specs.Option.{option_map}
use Rattle.pm_wide.specs.Types.{Ty, bool_type}
use Rattle.gim_ast.specs.declared.function.Function.{Function}
use Rattle.gim_ast.specs.declared.function.Block.{Block}
use Rattle.gim_ast.specs.declared.function.Stmt.{Stmt}
use Rattle.gim_ast.specs.declared.function.NameRow.{NameRow}
use Rattle.gim_ast.specs.declared.function.Rhs.{Rhs}
use Rattle.gim_ast.specs.declared.function.Rhs.TheVariants.{Op}
use Rattle.gim_ast.specs.declared.function.End.{End}
use Rattle.gim_ast.specs.declared.function.End.TheVariants.{Goto, If, Return}
use Rattle.gim_ast.specs.Functions.{right_of, uses_of, row_of}

-- a statement by the name that it assigns, or the condition at the end of a block by the block's number
pub data Site : Type 0 where
  AtStmt : ℕ → Site
  AtCond : ℕ → Site

-- a place, and the right side that stands there
pub record Subject : Type 0 where
  pub site : Site
  pub rhs : Rhs

abbrev pub subject_of_stmt : Stmt → Subject
subject_of_stmt stmt = record { site = AtStmt stmt.name; rhs = stmt.rhs }

-- a condition `left code right` is the right side `code (left, right)` of type _Bool
abbrev pub subjects_of_end : ℕ → End → List Subject
subjects_of_end n (Goto to) = []
subjects_of_end n (If code left right yes_to no_to) = record { site = AtCond n; rhs = Op code (left ∷ right ∷ []) } ∷ []
subjects_of_end n (Return a) = []

abbrev pub subjects_of_block : Block → List Subject
subjects_of_block block = map subject_of_stmt block.stmts ++ subjects_of_end block.number block.end

-- all subjects, in program order
unfoldable pub subjects : Function → List Subject
subjects f = flat_map subjects_of_block f.blocks

-- what matching and choice see of a function: the right side of a statement's name, in how many operand places a
-- name stands, and a name's type
pub record View : Type 0 where
  pub stmt : ℕ → Option Rhs
  pub uses : ℕ → ℕ
  pub ty : ℕ → Option Ty

abbrev pub view_of : Function → View
view_of f = record { stmt = right_of f; uses = uses_of f; ty = λ x. option_map (λ (row : NameRow). row.ty) (row_of f x) }

-- the type of a subject's right side: of a statement that of its name
abbrev pub type_at : View → Site → Option Ty
type_at view (AtStmt x) = view.ty x
type_at view (AtCond n) = Some bool_type
