-- Insertion: a new statement before a place of a block, with the declaration and the row of `names` of what it assigns, which is an anonymous name.
use Rattle.std.specs.Prelude.{◌≡◌, ℕ, ◌≤◌, ◌<◌, ◌^◌, zero, suc, ◌==◌, false, not, filter, IsTrue, nat_lt, Some, List, [], ◌∷◌, ◌++◌, length, map, drop, insert, slice_get}
use Rattle.std.specs.List.{list_all, AllByRecursion}
use Rattle.gim_ast.specs.Functions.{operands_of_rhs, stmt_name}
use Rattle.gim_ast.specs.Identifiers.{anonymous}
use Rattle.gim_ast.specs.WellFormed.{bounds_hold, is_type_of, operand_holds, rhs_fits}
use Rattle.gim_changes.specs.Validity.{IsReadableOperand}
use Rattle.gim_ast.specs.declared.function.Function.{Function}
use Rattle.gim_ast.specs.declared.function.Block.{Block}
use Rattle.gim_ast.specs.declared.function.Decl.{Decl}
use Rattle.gim_ast.specs.declared.function.NameRow.{NameRow}
use Rattle.gim_ast.specs.declared.function.Stmt.{Stmt}

-- the list with the element at a place changed
abbrev pub changed_at : {X : Type 0} → ℕ → (X → X) → List X → List X
changed_at place change [] = []
changed_at zero change (x ∷ xs) = change x ∷ xs
changed_at (suc place) change (x ∷ xs) = x ∷ changed_at place change xs

abbrev pub insert_in_block : ℕ → Stmt → Block → Block
insert_in_block before stmt block = record block { stmts = insert block.stmts before stmt }

-- the row of an anonymous name of the type
abbrev pub row_for : Stmt → Decl → NameRow
row_for stmt decl = record { version = stmt.name; base = []; ty = decl.ty; initial = false }

-- in the block of that place, from 0, the statement stands before the one that had the place `before`, or at the end
unfoldable pub with_stmt : ℕ → ℕ → Stmt → Decl → Function → Function
with_stmt place before stmt decl f = record f {
  decls = f.decls ++ decl ∷ [];
  names = f.names ++ row_for stmt decl ∷ [];
  blocks = changed_at place (insert_in_block before stmt) f.blocks;
}

-- the function has the block and the place there
abbrev pub HasPlace : Function → ℕ → ℕ → Type 0
HasPlace f place before = (block : Block) × (slice_get f.blocks place ≡ Some block) × (before ≤ length block.stmts)

-- the names but for one
abbrev pub names_but : ℕ → List ℕ → List ℕ
names_but x names = filter (λ y. not (y == x)) names

-- The statement may be inserted: the place is there, its name is above all others and declared as an anonymous name of a type that its right side has, each
-- operand holds and may be read at the place, and the function stays within the bounds of the machine
pub record MayBeInserted (f : Function) (place before : ℕ) (stmt : Stmt) (decl : Decl) : Type 0 where
  pub home : Block
  pub at : slice_get f.blocks place ≡ Some home
  pub within : before ≤ length home.stmts
  pub new : IsTrue (list_all (λ (row : NameRow). nat_lt row.version stmt.name) f.names)
  pub small : stmt.name < 2 ^ 32
  pub declared : decl.ident ≡ anonymous stmt.name
  pub type : IsTrue (is_type_of decl.ty)
  pub fits : IsTrue (rhs_fits decl.ty stmt.rhs)
  pub holds : IsTrue (list_all (operand_holds f) (operands_of_rhs stmt.rhs))
  pub readable : AllByRecursion (IsReadableOperand f home.number (map stmt_name (drop before home.stmts))) (operands_of_rhs stmt.rhs)
  pub bounds : IsTrue (bounds_hold (with_stmt place before stmt decl f))
