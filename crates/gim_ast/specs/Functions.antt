-- What stands in a function: its operands, the names that it assigns, its statements by name.
use Rattle.std.specs.Prelude.{ℕ, ◌==◌, Bool, false, ◌&&◌, Option, Some, None, List, [], ◌∷◌, ◌++◌, map, if◌then◌else◌, count_by}
use Rattle.std.specs.List.{flat_map, list_any}
use Rattle.std.specs.Option.{option_map}
use Rattle.pm_wide.specs.Types.{same_type}
use Rattle.pm_wide.specs.declared.operand.Operand.{Operand}
use Rattle.pm_wide.specs.declared.operand.Operand.TheVariants.{Name, Const}
use Rattle.gim_ast.specs.declared.function.Function.{Function}
use Rattle.gim_ast.specs.declared.function.Block.{Block}
use Rattle.gim_ast.specs.declared.function.Phi.{Phi}
use Rattle.gim_ast.specs.declared.function.Stmt.{Stmt}
use Rattle.gim_ast.specs.declared.function.NameRow.{NameRow}
use Rattle.gim_ast.specs.declared.function.Rhs.{Rhs}
use Rattle.gim_ast.specs.declared.function.Rhs.TheVariants.{Copy, Op}
use Rattle.gim_ast.specs.declared.function.End.{End}
use Rattle.gim_ast.specs.declared.function.End.TheVariants.{Goto, If, Return}

-- ---- operands, in the order of the text

abbrev pub operands_of_rhs : Rhs → List Operand
operands_of_rhs (Copy a) = a ∷ []
operands_of_rhs (Op code operands) = operands

abbrev pub operands_of_end : End → List Operand
operands_of_end (Goto to) = []
operands_of_end (If code left right yes_to no_to) = left ∷ right ∷ []
operands_of_end (Return a) = a ∷ []

abbrev pub operands_of_phi : Phi → List Operand
operands_of_phi phi = map (λ (arg : ℕ × Operand). arg.1) phi.args

abbrev pub operands_of_stmt : Stmt → List Operand
operands_of_stmt stmt = operands_of_rhs stmt.rhs

abbrev pub operands_of_block : Block → List Operand
operands_of_block block = flat_map operands_of_phi block.phis ++ flat_map operands_of_stmt block.stmts ++ operands_of_end block.end

unfoldable pub operands_of : Function → List Operand
operands_of f = flat_map operands_of_block f.blocks

-- ---- names

-- the operand is this name
abbrev pub is_name : ℕ → Operand → Bool
is_name x (Name version ty) = version == x
is_name x (Const word) = false

-- in how many operand places of the function the name stands
abbrev pub uses_of : Function → ℕ → ℕ
uses_of f x = count_by (is_name x) (operands_of f)

-- some operand of the function is the name
abbrev pub is_used : Function → ℕ → Bool
is_used f x = list_any (is_name x) (operands_of f)

abbrev pub phi_name : Phi → ℕ
phi_name phi = phi.name

abbrev pub stmt_name : Stmt → ℕ
stmt_name stmt = stmt.name

-- the names that a block assigns, in the order of the text: its phis' and then its statements'
abbrev pub assigned_in : Block → List ℕ
assigned_in block = map phi_name block.phis ++ map stmt_name block.stmts

-- the names that the function assigns, in program order
unfoldable pub assigned : Function → List ℕ
assigned f = flat_map assigned_in f.blocks

-- where the jumps of an end lead, one number for each place in the text
abbrev pub targets_of : End → List ℕ
targets_of (Goto to) = to ∷ []
targets_of (If code left right yes_to no_to) = yes_to ∷ no_to ∷ []
targets_of (Return a) = []

-- ---- look-ups

-- the first of a list that passes a test
abbrev pub first_where : {X : Type 0} → (X → Bool) → List X → Option X
first_where p [] = None
first_where p (x ∷ xs) = if p x then Some x else first_where p xs

-- all statements, in program order
abbrev pub stmts_of : Function → List Stmt
stmts_of f = flat_map (λ (block : Block). block.stmts) f.blocks

-- the right side of the first statement that assigns the name
unfoldable pub right_of : Function → ℕ → Option Rhs
right_of f x = option_map (λ (stmt : Stmt). stmt.rhs) (first_where (λ (stmt : Stmt). stmt.name == x) (stmts_of f))

-- what `names` says of a version
unfoldable pub row_of : Function → ℕ → Option NameRow
row_of f x = first_where (λ (row : NameRow). row.version == x) f.names

-- the block of a number
unfoldable pub block_of : Function → ℕ → Option Block
block_of f n = first_where (λ (block : Block). block.number == n) f.blocks

-- ---- equality of operands, as a test

abbrev pub same_operand : Operand → Operand → Bool
same_operand (Name x t) (Name y u) = (x == y) && same_type t u
same_operand (Const v) (Const w) = (v.bits == w.bits) && same_type v.ty w.ty
same_operand (Name x t) (Const w) = false
same_operand (Const v) (Name y u) = false
