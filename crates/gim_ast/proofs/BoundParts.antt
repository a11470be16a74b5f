-- The bounds, part by part: a count that stands still at the greatest number says which lists are short.
use Rattle.std.proofs.Common.{◌≡◌, ℕ, ◌+◌, ◌-◌, ◌≤◌, List, [], ◌∷◌, ◌++◌, length, ap, ◌∙◌, arith}
use Rattle.std.specs.Prelude.{◌&&◌, ◌^◌, nat_lt}
use Rattle.std.specs.List.{flat_map}
use Rattle.std.proofs.lemmas.List.{length-append, length-map}
use Rattle.std.proofs.lemmas.Bool.Decides.{nat_tests}
use Rattle.pm_wide.specs.declared.operand.Operand.{Operand}
use Rattle.gim_ast.specs.declared.function.Function.{Function}
use Rattle.gim_ast.specs.declared.function.Block.{Block}
use Rattle.gim_ast.specs.declared.function.Phi.{Phi}
use Rattle.gim_ast.specs.declared.function.Stmt.{Stmt}
use Rattle.gim_ast.specs.Functions.{operands_of, operands_of_phi, operands_of_stmt, operands_of_end, operands_of_block}
use Rattle.gim_ast.specs.WellFormed.{bounds_hold}
use Rattle.gim_ast.specs.RulesByPart.{capped_sum, count_in_phis, count_in_stmts, count_in_block, count_in_blocks, bounds_by_part}

nothing : (n : ℕ) → n ≤ 2 ^ 64 - 1 → n ≡ capped_sum n 0
nothing n h = omega arith

twice : (n a b m : ℕ) → m ≡ a + b → capped_sum (capped_sum n a) b ≡ capped_sum n m
twice n a b m h = omega arith

within : (n a : ℕ) → capped_sum n a ≤ 2 ^ 64 - 1
within n a = omega arith

in_phis : (n : ℕ) (phis : List Phi) → n ≤ 2 ^ 64 - 1 → count_in_phis n phis ≡ capped_sum n (length (flat_map operands_of_phi phis))
in_phis n [] h = nothing n h
in_phis n (p ∷ ps) h =
    let rest = flat_map operands_of_phi ps in
    in_phis (capped_sum n (length p.args)) ps (within n (length p.args))
    ∙ twice n (length p.args) (length rest) (length (operands_of_phi p ++ rest))
    (length-append (operands_of_phi p) rest ∙ ap (λ m. m + length rest) (length-map p.args (λ (arg : ℕ × Operand). arg.1)))

in_stmts : (n : ℕ) (stmts : List Stmt) → n ≤ 2 ^ 64 - 1 → count_in_stmts n stmts ≡ capped_sum n (length (flat_map operands_of_stmt stmts))
in_stmts n [] h = nothing n h
in_stmts n (s ∷ ss) h =
    let rest = flat_map operands_of_stmt ss in
    in_stmts (capped_sum n (length (operands_of_stmt s))) ss (within n (length (operands_of_stmt s)))
    ∙ twice n (length (operands_of_stmt s)) (length rest) (length (operands_of_stmt s ++ rest)) (length-append (operands_of_stmt s) rest)

in_block : (n : ℕ) (block : Block) → n ≤ 2 ^ 64 - 1 → count_in_block n block ≡ capped_sum n (length (operands_of_block block))
in_block n block h =
    let phis = flat_map operands_of_phi block.phis in
    let stmts = flat_map operands_of_stmt block.stmts in
    let end = operands_of_end block.end in
    let first = in_phis n block.phis h in
    let second = in_stmts (capped_sum n (length phis)) block.stmts (within n (length phis)) ∙ twice n (length phis) (length stmts) (length (phis ++ stmts)) (length-append phis stmts) in
    ap (λ m. capped_sum (count_in_stmts m block.stmts) (length end)) first
    ∙ (ap (λ m. capped_sum m (length end)) second
    ∙ twice n (length (phis ++ stmts)) (length end) (length (phis ++ stmts ++ end)) (length-append (phis ++ stmts) end))

in_blocks : (n : ℕ) (blocks : List Block) → n ≤ 2 ^ 64 - 1 → count_in_blocks n blocks ≡ capped_sum n (length (flat_map operands_of_block blocks))
in_blocks n [] h = nothing n h
in_blocks n (b ∷ bs) h =
    let rest = flat_map operands_of_block bs in
    ap (λ m. count_in_blocks m bs) (in_block n b h)
    ∙ (in_blocks (capped_sum n (length (operands_of_block b))) bs (within n (length (operands_of_block b)))
    ∙ twice n (length (operands_of_block b)) (length rest) (length (operands_of_block b ++ rest)) (length-append (operands_of_block b) rest))

is_short : (m c : ℕ) → c ≡ capped_sum 0 m → nat_lt m (2 ^ 31) ≡ nat_lt c (2 ^ 31)
is_short m c h = grind (arith, nat_tests)

counted : (f : Function) → nat_lt (length (operands_of f)) (2 ^ 31) ≡ nat_lt (count_in_blocks 0 f.blocks) (2 ^ 31)
unfolding operands_of
counted f = is_short (length (flat_map operands_of_block f.blocks)) (count_in_blocks 0 f.blocks) (in_blocks 0 f.blocks (omega arith))

pub bound_parts : (f : Function) → bounds_hold f ≡ bounds_by_part f
bound_parts f = ap (λ b. nat_lt (length f.blocks) (2 ^ 31) && nat_lt (length f.names) (2 ^ 31) && b) (counted f)
