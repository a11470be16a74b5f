-- What a function has to keep so that its names stay readable: each use's name is assigned on every path to it, and no name is in its own support.
-- And when a name may be read in place of another.
use Rattle.std.specs.Prelude.{◌≡◌, ℕ, ⊤, Bool, IsTrue, false, List, [], ◌∷◌, ◌⊎◌}
use Rattle.std.specs.Option.{option_map_or}
use Rattle.pm_wide.specs.Types.{same_type}
use Rattle.pm_wide.specs.declared.operand.Operand.{Operand}
use Rattle.pm_wide.specs.declared.operand.Operand.TheVariants.{Name, Const}
use Rattle.gim_ast.specs.declared.function.Function.{Function}
use Rattle.gim_ast.specs.declared.function.NameRow.{NameRow}
use Rattle.gim_ast.specs.Functions.{row_of}
use Rattle.gim_ast.specs.WellFormed.{type_of}
use Rattle.gim_ast.specs.Paths.{flow_of, Path}
use Rattle.gim_ast.specs.Readable.{read_for, Supports, is_initial, Use, IsReadable}
use Rattle.gim_changes.specs.Trimming.{stands_in}

-- after such assignments, the latest first, the name is assigned
abbrev pub IsAssignedAfter : (ℕ → Bool) → ℕ → List ℕ → Type 0
IsAssignedAfter initial x [] = IsTrue (initial x)
IsAssignedAfter initial x (y ∷ past) = (y ≡ x) ⊎ IsAssignedAfter initial x past

-- x isn't in its own support, and each path to the point assigns it
pub record IsAlwaysAssigned (f : Function) (x n : ℕ) (left : List ℕ) : Type 0 where
  pub apart : Supports (read_for f) x x → ⊥
  pub assigned : (past : List ℕ) → Path (flow_of f) n left past → IsAssignedAfter (is_initial f) x past

abbrev pub IsAlwaysAssignedUse : Function → Use → Type 0
IsAlwaysAssignedUse f place = IsAlwaysAssigned f place.name place.at place.left

-- y may be read in place of x: it is another name that stands in the function, x isn't in its support, and it is readable wherever x is about to
-- be assigned
pub record ComesBefore (f : Function) (y x : ℕ) : Type 0 where
  pub stands : IsTrue (stands_in f y)
  pub other : y ≡ x → ⊥
  pub apart : Supports (read_for f) y x → ⊥
  pub readable : (n : ℕ) (left : List ℕ) → IsReadable f y n (x ∷ left)

-- an operand may be read in place of x: it is a constant, or such a name
abbrev pub OperandComesBefore : Function → Operand → ℕ → Type 0
OperandComesBefore f (Name y t) x = ComesBefore f y x
OperandComesBefore f (Const w) x = ⊤

-- an operand may be read at a point: it is a constant, or a name that stands in the function and is readable there
abbrev pub IsReadableOperand : Function → ℕ → List ℕ → Operand → Type 0
IsReadableOperand f n left (Name y t) = IsTrue (stands_in f y) × IsReadable f y n left
IsReadableOperand f n left (Const w) = ⊤

-- the operand has the type of the name
abbrev pub has_type_of : Function → ℕ → Operand → Bool
has_type_of f x a = option_map_or (λ (row : NameRow). same_type row.ty (type_of a)) (row_of f x) false
