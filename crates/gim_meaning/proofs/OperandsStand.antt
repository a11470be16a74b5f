-- Where all operands of a function stand, those of each block and statement that a run comes to do.
use Rattle.std.proofs.Common.{◌≡◌, ◌≢◌, ℕ, true, false, eqb, Some, List, [], ◌∷◌, ◌++◌, map, refl}
use Rattle.std.proofs.Common.{subst, sym, ap, ◌∙◌}
use Rattle.std.specs.Prelude.{⊤}
use Rattle.std.specs.List.{list_any, flat_map, AllByRecursion}
use Rattle.std.proofs.lemmas.Bool.{or_parts, or_left, or_right, both_ways, eq-eqb}
use Rattle.pm_wide.specs.Types.{Word}
use Rattle.pm_wide.specs.declared.operand.Operand.{Operand}
use Rattle.pm_wide.specs.declared.operand.Operand.TheVariants.{Name, Const}
use Rattle.gim_ast.specs.declared.function.Function.{Function}
use Rattle.gim_ast.specs.declared.function.Block.{Block}
use Rattle.gim_ast.specs.declared.function.Phi.{Phi}
use Rattle.gim_ast.specs.declared.function.Stmt.{Stmt}
use Rattle.gim_ast.specs.Functions.{is_name, block_of, operands_of, operands_of_block}
use Rattle.gim_ast.specs.Functions.{operands_of_phi, operands_of_stmt, operands_of_end}
use Rattle.gim_ast.specs.Runs.{Env, name_type, after_phis, assign_each}
use Rattle.gim_run.specs.Blocks.{phi_pair}
use Rattle.gim_ast.proofs.ReadableLemmas.{all_left, all_right}
use Rattle.gim_meaning.proofs.Agreement.{AgreeOn, OperandStands, AllStand, agree_assigned_each}
use Rattle.gim_meaning.proofs.Agreement.{same_phi_word}
use Rattle.gim_meaning.proofs.ListSearch.{parts_of_found, parts_in_middle}
use Rattle.gim_meaning.specs.ReachedPoints.{Lies}

abbrev pub Any : ℕ → Type 0
Any x = ⊤

pub all_stand : (operands : List Operand) → AllStand Any operands
all_stand [] = tt
all_stand (Name x t ∷ operands) = (tt, all_stand operands)
all_stand (Const w ∷ operands) = (tt, all_stand operands)

-- operands none of which is a name
pub unused_stand : (x : ℕ) (operands : List Operand) → list_any (is_name x) operands ≡ false →
    AllStand (λ y. y ≢ x) operands
unused_stand x [] none = tt
unused_stand x (Name y t ∷ operands) none =
    let parts = or_parts (eqb y x) (list_any (is_name x) operands) none in
    (λ same. both_ways (eqb y x) parts.0 (eq-eqb y x same), unused_stand x operands parts.1)
unused_stand x (Const w ∷ operands) none = (tt, unused_stand x operands none)

-- each name among operands is used there
pub used_stand : (whole operands : List Operand) →
    ((x : ℕ) → list_any (is_name x) operands ≡ true → list_any (is_name x) whole ≡ true) →
    AllStand (λ x. list_any (is_name x) whole ≡ true) operands
used_stand whole [] within = tt
used_stand whole (Name y t ∷ operands) within = (
  within y (or_left (eqb y y) (list_any (is_name y) operands) (eq-eqb y y refl)),
  used_stand whole operands (λ x h. within x
      (or_right (eqb y x) (list_any (is_name x) operands) h)),
)
used_stand whole (Const w ∷ operands) within = (tt, used_stand whole operands within)

pub weaker_stand : (P Q : ℕ → Type 0) → ((x : ℕ) → P x → Q x) → (operands : List Operand) →
    AllStand P operands → AllStand Q operands
weaker_stand P Q weaker [] all = tt
weaker_stand P Q weaker (Name y t ∷ operands) all =
    (weaker y all.0, weaker_stand P Q weaker operands all.1)
weaker_stand P Q weaker (Const w ∷ operands) all = (tt, weaker_stand P Q weaker operands all.1)

module _ (f : Function) (Stands : ℕ → Type 0) (all : AllStand Stands (operands_of f)) where
  block_stands : (n : ℕ) (block : Block) → block_of f n ≡ Some block →
      AllStand Stands (operands_of_block block)
  unfolding operands_of block_of
  block_stands n block found = parts_of_found (λ (b : Block). eqb b.number n)
      (OperandStands Stands) operands_of_block f.blocks block found all

  items_stand : (block : Block) → AllStand Stands (operands_of_block block) →
      AllStand Stands (flat_map operands_of_phi block.phis) × AllStand Stands
      (flat_map operands_of_stmt block.stmts) × AllStand Stands (operands_of_end block.end)
  items_stand block stands =
      let phis = flat_map operands_of_phi block.phis in
      let stmts = flat_map operands_of_stmt block.stmts in
      let front = all_left (OperandStands Stands) (phis ++ stmts)
      (operands_of_end block.end) stands in (
        all_left (OperandStands Stands) phis stmts front,
        all_right (OperandStands Stands) phis stmts front,
        all_right (OperandStands Stands) (phis ++ stmts) (operands_of_end block.end) stands,
      )

  pub phis_stand : (n : ℕ) (block : Block) → block_of f n ≡ Some block →
      AllStand Stands (flat_map operands_of_phi block.phis)
  phis_stand n block found = (items_stand block (block_stands n block found)).0

  pub end_stands : (n : ℕ) (block : Block) → block_of f n ≡ Some block →
      AllStand Stands (operands_of_end block.end)
  end_stands n block found = (items_stand block (block_stands n block found)).2

  pub stmt_stands : (block : Block) (stmt : Stmt) (stmts : List Stmt) →
      Lies f block (stmt ∷ stmts) → AllStand Stands (operands_of_stmt stmt)
  stmt_stands block stmt stmts there =
      parts_in_middle (OperandStands Stands) operands_of_stmt there.front stmt stmts
      (subst (λ ss. AllStand Stands (flat_map operands_of_stmt ss)) there.is
      (items_stand block (block_stands block.number block there.found)).1)

-- ---- phis that stay

abbrev pub TypedAlike : Function → Function → ℕ → Type 0
TypedAlike f g x = name_type g x ≡ name_type f x

abbrev pub PhiTyped : Function → Function → Phi → Type 0
PhiTyped f g phi = TypedAlike f g phi.name

pub same_phis : (f g : Function) (Stands : ℕ → Type 0) (from : ℕ) (phis : List Phi) (e d : Env) →
    AgreeOn Stands e d → AllByRecursion (PhiTyped f g) phis →
    AllStand Stands (flat_map operands_of_phi phis) →
    AgreeOn Stands (after_phis f from phis e) (after_phis g from phis d)
same_phis f g Stands from phis e d agree typed stand =
    let f_pairs = map (phi_pair f from e) phis in
    subst (λ pairs. AgreeOn Stands (assign_each f_pairs e) (assign_each pairs d))
    (sym (same_pairs phis typed stand)) (agree_assigned_each Stands f_pairs e d agree)
  where
    same_pairs : (ps : List Phi) → AllByRecursion (PhiTyped f g) ps →
        AllStand Stands (flat_map operands_of_phi ps) →
        map (phi_pair g from d) ps ≡ map (phi_pair f from e) ps
    same_pairs [] typed stand = refl
    same_pairs (phi ∷ ps) typed stand =
        let word = same_phi_word Stands e d agree f g from phi typed.0
        (all_left (OperandStands Stands) (operands_of_phi phi)
        (flat_map operands_of_phi ps) stand) in
        let rest = same_pairs ps typed.1
        (all_right (OperandStands Stands) (operands_of_phi phi)
        (flat_map operands_of_phi ps) stand) in
        ap (λ (w : Word). (phi.name, w) ∷ map (phi_pair g from d) ps) word
        ∙ ap (λ pairs. phi_pair f from e phi ∷ pairs) rest

pub each_phi_typed : (f g : Function) → ((x : ℕ) → TypedAlike f g x) → (phis : List Phi) →
    AllByRecursion (PhiTyped f g) phis
each_phi_typed f g typed [] = tt
each_phi_typed f g typed (phi ∷ phis) = (typed phi.name, each_phi_typed f g typed phis)
