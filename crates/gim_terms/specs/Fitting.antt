-- In a well-formed function each statement and each condition is well typed.
use Rattle.std.proofs.Common.{◌≡◌, ℕ, zero, suc, Bool, true, false, ◌&&◌, cond, Some, List, [], ◌∷◌, slice_get, refl, subst, ◌∙◌}
use Rattle.std.specs.List.{list_all, flat_map}
use Rattle.std.proofs.lemmas.Bool.{and_parts, and_from}
use Rattle.std.proofs.lemmas.List.Folds.{list_all-append}
use Rattle.std.proofs.lemmas.Option.{same_Some, none-some, option_and_then_some}
use Rattle.gim_ast.specs.declared.function.Function.{Function}
use Rattle.gim_ast.specs.declared.function.Block.{Block}
use Rattle.gim_ast.specs.declared.function.Stmt.{Stmt}
use Rattle.gim_ast.specs.Functions.{first_where, operands_of}
use Rattle.gim_ast.specs.WellFormed.{is_well_formed, operand_holds, block_fits, phi_fits, stmt_fits, end_fits}
use Rattle.gim_terms.specs.Targets.{stmt_at}

-- ---- lists

pub all_at_place : {X : Type 0} (p : X → Bool) (xs : List X) (i : ℕ) (x : X) → list_all p xs ≡ true → slice_get xs i ≡ Some x → p x ≡ true
all_at_place p [] i x all there = absurd (none-some x there)
all_at_place p (y ∷ ys) zero x all there = subst (λ z. p z ≡ true) (same_Some y x there) (and_parts (p y) (list_all p ys) all).0
all_at_place p (y ∷ ys) (suc i) x all there = all_at_place p ys i x (and_parts (p y) (list_all p ys) all).1 there

pub all_at_first : {X : Type 0} (p q : X → Bool) (xs : List X) (x : X) → list_all p xs ≡ true → first_where q xs ≡ Some x → p x ≡ true
all_at_first p q [] x all found = absurd (none-some x found)
all_at_first p q (y ∷ ys) x all found =
    let parts = and_parts (p y) (list_all p ys) all in
    let rest = all_at_first p q ys x parts.1 in
    elim (q y) as (λ b. cond b (Some y) (first_where q ys) ≡ Some x → p x ≡ true)
    [ true ↦ λ e. subst (λ z. p z ≡ true) (same_Some y x e) parts.0 | false ↦ rest ] found

-- ---- functions

pub blocks_fit : (f : Function) → is_well_formed f ≡ true → list_all (block_fits f) f.blocks ≡ true
blocks_fit f whole =
    let most = and_parts _ _ whole in
    let operands = and_parts _ _ most.0 in
    (and_parts (list_all (operand_holds f) (operands_of f)) (list_all (block_fits f) f.blocks) operands.1).1

pub block_parts : (f : Function) (b : Block) → block_fits f b ≡ true → (list_all (stmt_fits f) b.stmts ≡ true) × (end_fits f b.end ≡ true)
block_parts f b fits =
    let parts = and_parts (list_all (phi_fits f) b.phis && list_all (stmt_fits f) b.stmts) (end_fits f b.end) fits in
    ((and_parts (list_all (phi_fits f) b.phis) (list_all (stmt_fits f) b.stmts) parts.0).1, parts.1)

pub stmts_fit : (f : Function) (bs : List Block) → list_all (block_fits f) bs ≡ true → list_all (stmt_fits f) (flat_map (λ (block : Block). block.stmts) bs) ≡ true
stmts_fit f [] all = refl
stmts_fit f (b ∷ bs) all =
    let parts = and_parts (block_fits f b) (list_all (block_fits f) bs) all in
    let later = flat_map (λ (block : Block). block.stmts) bs in
    list_all-append (stmt_fits f) b.stmts later
    ∙ and_from (list_all (stmt_fits f) b.stmts) (list_all (stmt_fits f) later) (block_parts f b parts.0).0 (stmts_fit f bs parts.1)

pub stmt_at_fits : (f : Function) (block stmt : ℕ) (s : Stmt) → is_well_formed f ≡ true → stmt_at f block stmt ≡ Some s → stmt_fits f s ≡ true
stmt_at_fits f block stmt s whole there =
    option_and_then_some (λ (home : Block). slice_get home.stmts stmt) (slice_get f.blocks block) s there
    (λ home is here.
    all_at_place (stmt_fits f) home.stmts stmt s
    (block_parts f home (all_at_place (block_fits f) f.blocks block home (blocks_fit f whole) is)).0 here)

pub end_at_fits : (f : Function) (block : ℕ) (home : Block) → is_well_formed f ≡ true → slice_get f.blocks block ≡ Some home → end_fits f home.end ≡ true
end_at_fits f block home whole is =
    (block_parts f home (all_at_place (block_fits f) f.blocks block home (blocks_fit f whole) is)).1
