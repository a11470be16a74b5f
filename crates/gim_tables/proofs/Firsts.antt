-- The first of a list, and of what stands behind.
use Rattle.std.proofs.Common.{◌≡◌, ℕ, ◌+◌, ◌-◌, ◌<◌, ◌≤◌, true, false, cond, Option, Some, List, [], ◌∷◌, ◌++◌, length, drop, get_or, refl, sym, ap, ◌∙◌, arith}
use Rattle.std.specs.Option.{option_or, option_map}
use Rattle.std.specs.List.{flat_map}
use Rattle.pattern_rows.proofs.Lists.{left_at}
use Rattle.gim_ast.specs.declared.function.Block.{Block}
use Rattle.gim_ast.specs.declared.function.Rhs.{Rhs}
use Rattle.gim_ast.specs.declared.function.Stmt.{Stmt}
use Rattle.gim_ast.specs.Functions.{first_where}
use Rattle.gim_terms.specs.Lookups.{assigns, stmts_in}
use Rattle.gim_tables.specs.Told.{right_among}

pub among_append : (q : ℕ) (xs ys : List Stmt) → right_among q (xs ++ ys) ≡ option_or (right_among q xs) (right_among q ys)
among_append q [] ys = refl
among_append q (x ∷ xs) ys =
    let more = among_append q xs ys in
    elim (assigns q x) as (λ b. option_map (λ (stmt : Stmt). stmt.rhs) (cond b (Some x) (first_where (assigns q) (xs ++ ys))) ≡
    option_or (option_map (λ (stmt : Stmt). stmt.rhs) (cond b (Some x) (first_where (assigns q) xs))) (right_among q ys))
    [ true ↦ refl | false ↦ more ]

pub among_block : (q : ℕ) (block : Block) (blocks : List Block)
    → right_among q (flat_map stmts_in (block ∷ blocks)) ≡ option_or (right_among q block.stmts) (right_among q (flat_map stmts_in blocks))
among_block q block blocks = among_append q block.stmts (flat_map stmts_in blocks)

block_back : (q : ℕ) (blocks : List Block) (at : ℕ) (block : Block) → 0 < at → at ≤ length blocks → block ≡ get_or blocks (at - 1) block
    → right_among q (flat_map stmts_in (drop (at - 1) blocks)) ≡ option_or (right_among q block.stmts) (right_among q (flat_map stmts_in (drop at blocks)))
block_back q blocks at block some within is =
    let e : at - 1 + 1 ≡ at = omega arith in
    ap (λ bs. right_among q (flat_map stmts_in bs)) (left_at blocks (at - 1) block (omega arith) is)
    ∙ (among_block q block (drop (at - 1 + 1) blocks) ∙ ap (λ n. option_or (right_among q block.stmts)
    (right_among q (flat_map stmts_in (drop n blocks)))) e)

-- one more block, before those that were looked at
pub turn_back : (q : ℕ) (blocks : List Block) (at : ℕ) (block : Block) (stmts : List Stmt) (known more : Option Rhs)
    → 0 < at → at ≤ length blocks
    → block ≡ get_or blocks (at - 1) block → stmts ≡ block.stmts → known ≡ right_among q (flat_map stmts_in (drop at blocks))
    → more ≡ option_or (right_among q stmts) known → more ≡ right_among q (flat_map stmts_in (drop (at - 1) blocks))
turn_back q blocks at block stmts known more some within is same so_far added =
    added
    ∙ (ap (λ xs. option_or (right_among q xs) known) same
    ∙ (ap (option_or (right_among q block.stmts)) so_far ∙ sym (block_back q blocks at block some within is)))
