-- The first statement of a name, block by block.
use Rattle.std.proofs.Common.{◌≡◌, ℕ, ◌+◌, ◌<◌, Bool, true, false, cond, Some, None, List, [], ◌∷◌, ◌++◌, length, drop, get_or, refl, sym, ap, ◌∙◌}
use Rattle.std.specs.List.{flat_map}
use Rattle.std.proofs.lemmas.Option.{none-some}
use Rattle.pattern_rows.proofs.Lists.{left_at}
use Rattle.gim_ast.specs.declared.function.Block.{Block}
use Rattle.gim_ast.specs.declared.function.Stmt.{Stmt}
use Rattle.gim_ast.specs.Functions.{first_where}
use Rattle.gim_terms.specs.Lookups.{stmts_in}

first_in_front : {X : Type 0} (p : X → Bool) (xs ys : List X) (x : X) → first_where p xs ≡ Some x → first_where p (xs ++ ys) ≡ Some x
first_in_front p [] ys x is = absurd (none-some x is)
first_in_front p (z ∷ zs) ys x is =
    let rest = first_in_front p zs ys x in
    elim (p z) as (λ b. cond b (Some z) (first_where p zs) ≡ Some x → cond b (Some z) (first_where p (zs ++ ys)) ≡ Some x)
    [ true ↦ λ e. e | false ↦ rest ] is

first_behind : {X : Type 0} (p : X → Bool) (xs ys : List X) → first_where p xs ≡ None → first_where p (xs ++ ys) ≡ first_where p ys
first_behind p [] ys is = refl
first_behind p (z ∷ zs) ys is =
    let rest = first_behind p zs ys in
    elim (p z) as (λ b. cond b (Some z) (first_where p zs) ≡ None → cond b (Some z) (first_where p (zs ++ ys)) ≡ first_where p ys)
    [ true ↦ λ e. absurd (none-some z (sym e)) | false ↦ rest ] is

pub found_in_block : (p : Stmt → Bool) (blocks : List Block) (i : ℕ) (block : Block) (stmts : List Stmt) (s : Stmt) → i < length blocks → block ≡ get_or blocks i block → stmts ≡ block.stmts
    → Some s ≡ first_where p stmts → first_where p (flat_map stmts_in (drop i blocks)) ≡ Some s
found_in_block p blocks i block stmts s within is same first =
    ap (λ bs. first_where p (flat_map stmts_in bs)) (left_at blocks i block within is)
    ∙ first_in_front p block.stmts (flat_map stmts_in (drop (i + 1) blocks)) s (ap (first_where p) (sym same) ∙ sym first)

pub not_in_block : (p : Stmt → Bool) (blocks : List Block) (i : ℕ) (block : Block) (stmts : List Stmt) → i < length blocks → block ≡ get_or blocks i block → stmts ≡ block.stmts
    → None ≡ first_where p stmts → first_where p (flat_map stmts_in (drop i blocks)) ≡ first_where p (flat_map stmts_in (drop (i + 1) blocks))
not_in_block p blocks i block stmts within is same none =
    ap (λ bs. first_where p (flat_map stmts_in bs)) (left_at blocks i block within is)
    ∙ first_behind p block.stmts (flat_map stmts_in (drop (i + 1) blocks)) (ap (first_where p) (sym same) ∙ sym none)
