-- Where a name may be read: it holds there what its operation gives on the present values of its operands.
use Rattle.std.specs.Prelude.{◌≡◌, ℕ, ◌+◌, Bool, false, IsTrue, List, [], ◌∷◌, ◌++◌, ◌⊎◌, length, map}
use Rattle.std.specs.List.{flat_map, AllByRecursion}
use Rattle.std.specs.Option.{option_map_or}
use Rattle.pm_wide.specs.declared.operand.Operand.{Operand}
use Rattle.pm_wide.specs.declared.operand.Operand.TheVariants.{Name, Const}
use Rattle.gim_ast.specs.declared.function.Function.{Function}
use Rattle.gim_ast.specs.declared.function.Block.{Block}
use Rattle.gim_ast.specs.declared.function.Phi.{Phi}
use Rattle.gim_ast.specs.declared.function.Stmt.{Stmt}
use Rattle.gim_ast.specs.declared.function.NameRow.{NameRow}
use Rattle.gim_ast.specs.declared.function.Rhs.{Rhs}
use Rattle.gim_ast.specs.Functions.{operands_of_rhs, operands_of_stmt, operands_of_end, stmt_name, right_of, row_of}
use Rattle.gim_ast.specs.WellFormed.{is_among, IsWellFormed}
use Rattle.gim_ast.specs.Paths.{flow_of, Path}

-- ---- support

-- the names among operands, from left to right
abbrev pub names_among : List Operand → List ℕ
names_among [] = []
names_among (Name x t ∷ operands) = x ∷ names_among operands
names_among (Const w ∷ operands) = names_among operands

-- the names that the statement of x reads. No statement assigns a default definition or the name of a phi
unfoldable pub read_for : Function → ℕ → List ℕ
read_for f x = option_map_or (λ (rhs : Rhs). names_among (operands_of_rhs rhs)) (right_of f x) []

-- `Supports reads x y`: y is in the support of x, where `reads` says which names the statement of a name reads. The
-- support holds these names and their supports
pub data Supports (reads : ℕ → List ℕ) : ℕ → ℕ → Type 0 where
  operand : (x y : ℕ) → IsTrue (is_among y (reads x)) → Supports reads x y
  further : (x y z : ℕ) → IsTrue (is_among y (reads x)) → Supports reads y z → Supports reads x z

-- ---- freshness and readability

-- the name is a default definition, assigned at the start of every path
unfoldable pub is_initial : Function → ℕ → Bool
is_initial f x = option_map_or (λ (row : NameRow). row.initial) (row_of f x) false

-- after such assignments, the latest first, x is assigned, and since its last assignment no name of its support is
abbrev pub Fresh : (ℕ → Bool) → (ℕ → List ℕ) → ℕ → List ℕ → Type 0
Fresh initial reads x [] = IsTrue (initial x)
Fresh initial reads x (y ∷ past) = (y ≡ x) ⊎ ((Supports reads x y → ⊥) × Fresh initial reads x past)

-- x isn't in its own support, and it is fresh after each path to the point
pub record IsReadable (f : Function) (x n : ℕ) (left : List ℕ) : Type 0 where
  pub apart : Supports (read_for f) x x → ⊥
  pub fresh : (past : List ℕ) → Path (flow_of f) n left past → Fresh (is_initial f) (read_for f) x past

-- ---- uses

-- a use of a name: the block and the item, from 1, where it stands, and the point where it is read
pub record Use : Type 0 where
  pub block : ℕ
  pub item : ℕ
  pub name : ℕ
  pub at : ℕ
  pub left : List ℕ

-- the uses in operands that are read at one point
abbrev pub uses_at : ℕ → ℕ → ℕ → List ℕ → List Operand → List Use
uses_at n k at left operands = map (λ x. record { block = n; item = k; name = x; at = at; left = left }) (names_among operands)

-- an argument is read before the end of the block that it comes from, where nothing is left to be assigned
abbrev pub uses_in_phi : ℕ → ℕ → Phi → List Use
uses_in_phi n k phi = flat_map (λ (arg : ℕ × Operand). uses_at n k arg.0 [] (arg.1 ∷ [])) phi.args

-- of phis that are counted from k
abbrev pub uses_in_phis : ℕ → ℕ → List Phi → List Use
uses_in_phis n k [] = []
uses_in_phis n k (phi ∷ phis) = uses_in_phi n k phi ++ uses_in_phis n (k + 1) phis

-- a statement reads before it assigns
abbrev pub uses_in_stmts : ℕ → ℕ → List Stmt → List Use
uses_in_stmts n k [] = []
uses_in_stmts n k (stmt ∷ stmts) = uses_at n k n (map stmt_name (stmt ∷ stmts)) (operands_of_stmt stmt) ++ uses_in_stmts n (k + 1) stmts

-- phis, statements and the end are counted from 1
abbrev pub uses_in_block : Block → List Use
uses_in_block block = uses_in_phis block.number 1 block.phis
    ++ uses_in_stmts block.number (1 + length block.phis) block.stmts
    ++ uses_at block.number (1 + length block.phis + length block.stmts) block.number [] (operands_of_end block.end)

-- all uses, in program order
abbrev pub uses_in : Function → List Use
uses_in f = flat_map uses_in_block f.blocks

-- ---- valid functions

abbrev pub IsReadableUse : Function → Use → Type 0
IsReadableUse f place = IsReadable f place.name place.at place.left

-- a well-formed function each of whose uses is readable where it is read
pub record IsValid (f : Function) : Type 0 where
  pub well_formed : IsWellFormed f
  pub readable : AllByRecursion (IsReadableUse f) (uses_in f)

-- the first use in program order that isn't readable where it is read
pub record IsFirstUnreadable (f : Function) (block item name : ℕ) : Type 0 where
  pub before : List Use
  pub first : Use
  pub after : List Use
  pub in_order : uses_in f ≡ before ++ first ∷ after
  pub readable_before : AllByRecursion (IsReadableUse f) before
  pub unreadable : IsReadableUse f first → ⊥
  pub same_block : first.block ≡ block
  pub same_item : first.item ≡ item
  pub same_name : first.name ≡ name
