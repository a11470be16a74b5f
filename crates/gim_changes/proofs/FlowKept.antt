-- What paths see of a function stays under another operand, right side or condition.
use Rattle.std.proofs.Common.{◌≡◌, ℕ, true, false, List, [], ◌∷◌, ◌++◌, eqb, map, cond, refl, ap, ◌∙◌}
use Rattle.pm_ops.specs.declared.code.Code.{Code}
use Rattle.pm_wide.specs.declared.operand.Operand.{Operand}
use Rattle.gim_ast.specs.declared.function.Function.{Function}
use Rattle.gim_ast.specs.declared.function.Block.{Block}
use Rattle.gim_ast.specs.declared.function.Stmt.{Stmt}
use Rattle.gim_ast.specs.declared.function.Rhs.{Rhs}
use Rattle.gim_ast.specs.declared.function.End.{End}
use Rattle.gim_ast.specs.declared.function.End.TheVariants.{Goto, If, Return}
use Rattle.gim_ast.specs.Functions.{phi_name, stmt_name, assigned_in, targets_of}
use Rattle.gim_changes.specs.Substitution.{put_in_phi, put_in_stmt, put_in_end, put_in_block, put_in_all, with_rhs_in_stmt, with_rhs, with_condition_in_end, with_condition}
use Rattle.gim_changes.specs.Trimming.{trimmed}
use Rattle.gim_ast.specs.Paths.{Stretch, stretch_of, flow_of}

-- a change of elements that what is seen of them doesn't show
pub unseen : {X Y : Type 0} (see : X → Y) (change : X → X) → ((x : X) → see (change x) ≡ see x) → (xs : List X) → map see (map change xs) ≡ map see xs
unseen see change same [] = refl
unseen see change same (x ∷ xs) = ap (λ y. y ∷ map see (map change xs)) (same x) ∙ ap (λ ys. see x ∷ ys) (unseen see change same xs)

abbrev stretch : ℕ → List ℕ → List ℕ → Stretch
stretch n assigns targets = record { number = n; assigns = assigns; targets = targets }

same_stretch : (n : ℕ) (a b c d : List ℕ) → a ≡ b → c ≡ d → stretch n a c ≡ stretch n b d
same_stretch n a b c d assigns targets = ap (λ l. stretch n l c) assigns ∙ ap (λ l. stretch n b l) targets

pub put_targets : (x : ℕ) (by : Operand) (end : End) → targets_of (put_in_end x by end) ≡ targets_of end
put_targets x by (Goto to) = refl
put_targets x by (If code left right yes_to no_to) = refl
put_targets x by (Return a) = refl

pub put_in_flow : (x : ℕ) (by : Operand) (f : Function) → flow_of (put_in_all x by f) ≡ flow_of f
unfolding put_in_all
put_in_flow x by f = unseen stretch_of (put_in_block x by) (λ block. same_stretch block.number _ _ _ _
    (ap (λ l. l ++ map stmt_name (map (put_in_stmt x by) block.stmts)) (unseen phi_name (put_in_phi x by) (λ phi. refl) block.phis)
    ∙ ap (λ l. map phi_name block.phis ++ l) (unseen stmt_name (put_in_stmt x by) (λ stmt. refl) block.stmts))
    (put_targets x by block.end)) f.blocks

pub rhs_name : (x : ℕ) (rhs : Rhs) (stmt : Stmt) → stmt_name (with_rhs_in_stmt x rhs stmt) ≡ stmt_name stmt
rhs_name x rhs stmt = elim (eqb stmt.name x) as (λ b. stmt_name (cond b (record stmt { rhs = rhs }) stmt) ≡ stmt.name) [ true ↦ refl | false ↦ refl ]

pub rhs_in_flow : (x : ℕ) (rhs : Rhs) (f : Function) → flow_of (with_rhs x rhs f) ≡ flow_of f
unfolding with_rhs
rhs_in_flow x rhs f = unseen stretch_of (λ (block : Block). record block { stmts = map (with_rhs_in_stmt x rhs) block.stmts }) (λ block. same_stretch block.number _ _ _ _
    (ap (λ l. map phi_name block.phis ++ l) (unseen stmt_name (with_rhs_in_stmt x rhs) (rhs_name x rhs) block.stmts)) refl) f.blocks

pub condition_targets : (code : Code) (a b : Operand) (end : End) → targets_of (with_condition_in_end code a b end) ≡ targets_of end
condition_targets code a b (Goto to) = refl
condition_targets code a b (If old left right yes_to no_to) = refl
condition_targets code a b (Return c) = refl

condition_stretch : (n : ℕ) (code : Code) (a b : Operand) (block : Block) → stretch_of (cond (eqb block.number n) (record block { end = with_condition_in_end code a b block.end }) block) ≡ stretch_of block
condition_stretch n code a b block =
    let changed = same_stretch block.number (assigned_in block) (assigned_in block) _ _ refl (condition_targets code a b block.end) in
    elim (eqb block.number n) as (λ t. stretch_of (cond t (record block { end = with_condition_in_end code a b block.end }) block) ≡ stretch_of block) [ true ↦ changed | false ↦ refl ]

pub condition_in_flow : (n : ℕ) (code : Code) (a b : Operand) (f : Function) → flow_of (with_condition n code a b f) ≡ flow_of f
unfolding with_condition
condition_in_flow n code a b f = unseen stretch_of _ (condition_stretch n code a b) f.blocks

pub trimmed_in_flow : (f : Function) → flow_of (trimmed f) ≡ flow_of f
unfolding trimmed
trimmed_in_flow f = refl
