-- Rows of a function that got a new statement: those of other names stay, and what has a row is
-- another name.
use Rattle.std.proofs.Common.{◌≡◌, ◌≢◌, ℕ, Bool, true, false, cond, eqb, Option, Some, None, List}
use Rattle.std.proofs.Common.{[], ◌∷◌, ◌++◌, refl, sym, ap, ◌∙◌, arith}
use Rattle.std.specs.Option.{option_map_or}
use Rattle.std.specs.List.{list_all}
use Rattle.std.proofs.lemmas.Bool.{and_parts, both_ways, eq-eqb}
use Rattle.std.proofs.lemmas.Bool.Decides.{nat_tests}
use Rattle.pm_wide.specs.Types.{Word, bool_type, same_type}
use Rattle.pm_wide.specs.declared.operand.Operand.{Operand}
use Rattle.pm_wide.specs.declared.operand.Operand.TheVariants.{Name, Const}
use Rattle.gim_ast.specs.declared.function.Function.{Function}
use Rattle.gim_ast.specs.declared.function.Decl.{Decl}
use Rattle.gim_ast.specs.declared.function.Stmt.{Stmt}
use Rattle.gim_ast.specs.declared.function.NameRow.{NameRow}
use Rattle.gim_ast.specs.Functions.{first_where, operands_of, row_of, operands_of_stmt}
use Rattle.gim_ast.specs.WellFormed.{IsWellFormed, operand_holds, block_fits}
use Rattle.gim_ast.specs.Runs.{start_env, start_word, zero_of, name_type}
use Rattle.gim_changes.specs.Insertion.{row_for, with_stmt}
use Rattle.gim_meaning.proofs.Agreement.{AllStand}
use Rattle.gim_meaning.proofs.ListSearch.{first_of_front, first_behind}
use Rattle.gim_meaning.proofs.OperandsStand.{TypedAlike}
use Rattle.gim_meaning.proofs.ReadableValues.{IsOther}

-- a name without a row, whose statement reads names and constants that the function may have, so
-- none that it makes
pub record IsNewStmt (f : Function) (stmt : Stmt) : Type 0 where
  pub new : row_of f stmt.name ≡ None
  pub reads : list_all (operand_holds f) (operands_of_stmt stmt) ≡ true

-- ---- a name without a row

module _ (f : Function) (new : ℕ) (none : row_of f new ≡ None) where
  -- what has a row is another name
  pub has_row_other : (p : NameRow → Bool) (y : ℕ) → option_map_or p (row_of f y) false ≡ true →
      y ≢ new
  has_row_other p y h same =
      both_ways false refl (sym (ap (λ z. option_map_or p (row_of f z) false) same
      ∙ ap (λ found. option_map_or p found false) none) ∙ h)

  pub holding_stand : (operands : List Operand) → list_all (operand_holds f) operands ≡ true →
      AllStand (IsOther new) operands
  holding_stand [] h = tt
  holding_stand (Name y t ∷ operands) h =
      let here = operand_holds f (Name y t) in
      let parts = and_parts here (list_all (operand_holds f) operands) h in (
        has_row_other (λ (row : NameRow). same_type row.ty t) y parts.0,
        holding_stand operands
            parts.1,
      )
  holding_stand (Const w ∷ operands) h = (
    tt,
    holding_stand operands ((and_parts (operand_holds f (Const w))
        (list_all (operand_holds f) operands) h).1),
  )

  pub all_stand_aside : IsWellFormed f → AllStand (IsOther new) (operands_of f)
  all_stand_aside well = holding_stand (operands_of f)
      ((and_parts (list_all (operand_holds f) (operands_of f))
      (list_all (block_fits f) f.blocks) well.operands).0)

-- ---- a new row

module _ (f : Function) (place before : ℕ) (stmt : Stmt) (decl : Decl) where
  abbrev g : Function
  g = with_stmt place before stmt decl f

  rows_behind : (y : ℕ) → y ≢ stmt.name → (rows : List NameRow) →
      first_where (λ (row : NameRow). eqb row.version y)
      (rows ++ row_for stmt decl ∷ []) ≡ first_where (λ (row : NameRow). eqb row.version y) rows
  rows_behind y other rows = by (first_where (λ (row : NameRow). eqb row.version y) rows) refl
    where
      p : NameRow → Bool
      p row = eqb row.version y

      last : first_where p (row_for stmt decl ∷ []) ≡ None
      last = let fails : eqb stmt.name y ≡ false = grind (arith, nat_tests) in
          ap (λ b. cond b (Some (row_for stmt decl)) None) fails

      by : (found : Option NameRow) → first_where p rows ≡ found →
          first_where p (rows ++ row_for stmt decl ∷ []) ≡ found
      by None is = first_behind p rows (row_for stmt decl ∷ []) is ∙ last
      by (Some row) is = first_of_front p rows (row_for stmt decl ∷ []) row is

  pub row_other : (y : ℕ) → y ≢ stmt.name → row_of g y ≡ row_of f y
  unfolding row_of with_stmt
  row_other y other = rows_behind y other f.names

  pub row_new : row_of f stmt.name ≡ None → row_of g stmt.name ≡ Some (row_for stmt decl)
  unfolding row_of with_stmt
  row_new none =
      first_behind (λ (row : NameRow). eqb row.version stmt.name) f.names
      (row_for stmt decl ∷ []) none
      ∙ ap (λ b. cond b (Some (row_for stmt decl)) None) (eq-eqb stmt.name stmt.name refl)

  pub typed_other : (y : ℕ) → y ≢ stmt.name → TypedAlike f g y
  unfolding name_type
  typed_other y other = ap (λ found. option_map_or (λ (row : NameRow). row.ty) found bool_type)
      (row_other y other)

  pub typed_new : row_of f stmt.name ≡ None → name_type g stmt.name ≡ decl.ty
  unfolding name_type
  typed_new none = ap (λ found. option_map_or (λ (row : NameRow). row.ty) found bool_type)
      (row_new none)

  pub starts_other : (args : List Word) (y : ℕ) → y ≢ stmt.name →
      start_env g args y ≡ start_env f args y
  unfolding start_env with_stmt
  starts_other args y other = ap (λ found. option_map_or (start_word f args) found
      (zero_of bool_type)) (row_other y other)
