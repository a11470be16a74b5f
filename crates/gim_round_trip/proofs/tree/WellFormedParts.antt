-- What the rules on a well-formed function say of its blocks, phis, statements and operands, one by one.
use Rattle.std.proofs.Common.{◌≡◌, ℕ, true, false, Option, Some, None, ◌++◌, map, refl, sym, ap, ◌∙◌, inl, inr}
use Rattle.std.specs.Prelude.{◌==◌}
use Rattle.std.specs.List.{list_all, flat_map}
use Rattle.std.specs.Option.{option_map_or}
use Rattle.std.proofs.lemmas.Bool.{and_parts, not-true, false≢true}
use Rattle.pm_wide.specs.Types.{Ty, same_type}
use Rattle.pm_wide.specs.declared.operand.Operand.{Operand}
use Rattle.pm_wide.specs.declared.operand.Operand.TheVariants as operands
use Rattle.pm_wide.proofs.Results.{same_type_is}
use Rattle.gim_ast.specs.declared.function.Function.{Function}
use Rattle.gim_ast.specs.declared.function.Block.{Block}
use Rattle.gim_ast.specs.declared.function.Phi.{Phi}
use Rattle.gim_ast.specs.declared.function.Stmt.{Stmt}
use Rattle.gim_ast.specs.declared.function.NameRow.{NameRow}
use Rattle.gim_ast.specs.Functions.{operands_of, operands_of_block, operands_of_phi, operands_of_stmt}
use Rattle.gim_ast.specs.Functions.{operands_of_end, assigned, assigned_in, phi_name, stmt_name, targets_of}
use Rattle.gim_ast.specs.Functions.{row_of}
use Rattle.gim_ast.specs.WellFormed.{IsWellFormed, all_distinct, operand_holds, block_fits, phi_fits, stmt_fits}
use Rattle.gim_ast.specs.WellFormed.{rhs_fits, end_fits, numbers_of, is_among, entry_has_no_phi, is_empty, predecessors}
use Rattle.gim_ast.specs.WellFormed.{phi_blocks, phi_holds, type_of}
use Rattle.gim_text.proofs.Membership.{Has, all_has, has_left, has_right, has_either, has_map, from_map, has_flat, from_flat}

-- ---- blocks

pub record BlocksHold (f : Function) : Type 0 where
  pub entry : entry_has_no_phi f.blocks ≡ true
  pub distinct : all_distinct ◌==◌ (numbers_of f) ≡ true
  pub targets : list_all (λ n. is_among n (numbers_of f)) (flat_map (λ (block : Block). targets_of block.end) f.blocks) ≡ true
  pub phis : list_all (λ (block : Block). list_all (phi_holds f block.number) block.phis) f.blocks ≡ true

pub of_blocks : (f : Function) → IsWellFormed f → BlocksHold f
of_blocks f well =
    let last = and_parts _ _ well.blocks in
    let targets = and_parts _ _ last.0 in
    let first = and_parts _ _ targets.0 in
    record { entry = first.0; distinct = first.1; targets = targets.1; phis = last.1 }

pub record PhiHolds (f : Function) (n : ℕ) (phi : Phi) : Type 0 where
  pub distinct : all_distinct ◌==◌ (phi_blocks phi) ≡ true
  pub only : list_all (λ m. is_among m (predecessors f n)) (phi_blocks phi) ≡ true
  pub each : list_all (λ m. is_among m (phi_blocks phi)) (predecessors f n) ≡ true
  pub some : is_empty phi.args ≡ false

-- ---- what stands in a block stands in its function

module _ (f : Function) (block : Block) (there : Has f.blocks block) where
  pub phi_operand : (phi : Phi) → Has block.phis phi → (arg : ℕ × Operand) → Has phi.args arg → Has (operands_of f) arg.1
  unfolding operands_of
  phi_operand phi here arg stands =
      has_flat operands_of_block f.blocks block arg.1 there
      (has_left _ _ _ (has_left _ _ _ (has_flat operands_of_phi block.phis phi arg.1 here
      (has_map (λ (a : ℕ × Operand). a.1) phi.args arg stands))))

  pub stmt_operand : (stmt : Stmt) → Has block.stmts stmt → (x : Operand) → Has (operands_of_stmt stmt) x → Has (operands_of f) x
  unfolding operands_of
  stmt_operand stmt here x stands =
      has_flat operands_of_block f.blocks block x there
      (has_left _ _ _ (has_right (flat_map operands_of_phi block.phis) _ _ (has_flat operands_of_stmt block.stmts stmt x here stands)))

  pub end_operand : (x : Operand) → Has (operands_of_end block.end) x → Has (operands_of f) x
  unfolding operands_of
  end_operand x stands =
      has_flat operands_of_block f.blocks block x there (has_right
      (flat_map operands_of_phi block.phis ++ flat_map operands_of_stmt block.stmts) _ _ stands)

  module _ (well : IsWellFormed f) where
    fits : block_fits f block ≡ true
    fits = all_has (block_fits f) f.blocks (and_parts _ _ well.operands).1 block there

    pub end_fits_here : end_fits f block.end ≡ true
    end_fits_here = (and_parts _ _ fits).1

    pub phi_rules : (phi : Phi) → Has block.phis phi → PhiHolds f block.number phi
    phi_rules phi here =
        let last = and_parts _ _ (all_has (phi_holds f block.number) block.phis
        (all_has (λ (b : Block). list_all (phi_holds f b.number) b.phis) f.blocks (of_blocks f well).phis block there) phi here) in
        let each = and_parts _ _ last.0 in
        let first = and_parts _ _ each.0 in
        record { distinct = first.0; only = first.1; each = each.1; some = not-true (is_empty phi.args) last.1 }

    pub phi_row : (phi : Phi) → Has block.phis phi
        → (row : NameRow) × (row_of f phi.name ≡ Some row)
        × (list_all (λ (arg : ℕ × Operand). same_type (type_of arg.1) row.ty) phi.args ≡ true)
    phi_row phi here = by (row_of f phi.name) refl (all_has (phi_fits f) block.phis (and_parts _ _ (and_parts _ _ fits).0).0 phi here) where
      by : (o : Option NameRow) → row_of f phi.name ≡ o
          → option_map_or (λ (row : NameRow). list_all (λ (arg : ℕ × Operand). same_type (type_of arg.1) row.ty) phi.args) o false ≡ true
          → (row : NameRow) × (row_of f phi.name ≡ Some row)
          × (list_all (λ (arg : ℕ × Operand). same_type (type_of arg.1) row.ty) phi.args ≡ true)
      by None found h = absurd (false≢true h)
      by (Some row) found h = (row, found, h)

    pub stmt_row : (stmt : Stmt) → Has block.stmts stmt → (row : NameRow) × (row_of f stmt.name ≡ Some row)
        × (rhs_fits row.ty stmt.rhs ≡ true)
    stmt_row stmt here =
        by (row_of f stmt.name) refl (all_has (stmt_fits f) block.stmts (and_parts _ _ (and_parts _ _ fits).0).1 stmt
        here) where
          by : (o : Option NameRow) → row_of f stmt.name ≡ o → option_map_or (λ (row : NameRow). rhs_fits row.ty stmt.rhs) o false ≡ true
              → (row : NameRow) × (row_of f stmt.name ≡ Some row) × (rhs_fits row.ty stmt.rhs ≡ true)
          by None found h = absurd (false≢true h)
          by (Some row) found h = (row, found, h)

-- ---- operands and assigned names

pub each_operand_holds : (f : Function) → IsWellFormed f → (a : Operand) → Has (operands_of f) a → operand_holds f a ≡ true
each_operand_holds f well a there = all_has (operand_holds f) (operands_of f) (and_parts _ _ well.operands).0 a there

-- an operand that holds and is a name has a row, with its type
pub operand_row : (f : Function) (x : ℕ) (t : Ty) → operand_holds f (operands.Name x t) ≡ true
    → (row : NameRow) × (row_of f x ≡ Some row) × (row.ty ≡ t)
operand_row f x t holds = by (row_of f x) refl holds where
  by : (o : Option NameRow) → row_of f x ≡ o → option_map_or (λ (row : NameRow). same_type row.ty t) o false ≡ true
      → (row : NameRow) × (row_of f x ≡ Some row) × (row.ty ≡ t)
  by None found h = absurd (false≢true h)
  by (Some row) found h = (row, found, same_type_is row.ty t h)

pub assigned_row : (f : Function) → IsWellFormed f → (x : ℕ) → Has (assigned f) x → (row : NameRow) × (row_of f x ≡ Some row)
unfolding assigned
assigned_row f well x there =
    let block = from_flat assigned_in f.blocks x there in
    elim (has_either (map phi_name block.0.phis) (map stmt_name block.0.stmts) x block.2) [
      | inl h ↦ let phi = from_map phi_name block.0.phis x h in let row = phi_row f block.0 block.1 well phi.0 phi.1 in
          (row.0, ap (row_of f) (sym phi.2) ∙ row.1)
      | inr h ↦ let stmt = from_map stmt_name block.0.stmts x h in let row = stmt_row f block.0 block.1 well stmt.0 stmt.1 in
          (row.0, ap (row_of f) (sym stmt.2) ∙ row.1)
    ]
