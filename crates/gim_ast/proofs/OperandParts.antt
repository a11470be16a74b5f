-- The rules on operands, part by part.
use Rattle.std.proofs.Common.{◌≡◌, ℕ, ◌≤◌, false, List, [], ◌∷◌, ◌++◌, map, length, refl, ap, ◌∙◌, arith}
use Rattle.std.specs.Prelude.{◌&&◌}
use Rattle.std.specs.List.{flat_map, list_all}
use Rattle.std.proofs.lemmas.List.Folds.{list_all-append}
use Rattle.pm_ops.specs.declared.code.Code.{Code}
use Rattle.pm_wide.specs.Types.{Ty}
use Rattle.pm_wide.specs.Typing.{well_typed_operation}
use Rattle.pm_wide.specs.declared.operand.Operand.{Operand}
use Rattle.gim_ast.specs.declared.function.Function.{Function}
use Rattle.gim_ast.specs.declared.function.Block.{Block}
use Rattle.gim_ast.specs.declared.function.Phi.{Phi}
use Rattle.gim_ast.specs.Functions.{operands_of, operands_of_phi, operands_of_stmt, operands_of_end, operands_of_block}
use Rattle.gim_ast.specs.WellFormed.{type_of, operand_holds, block_fits, operands_hold}
use Rattle.gim_ast.specs.RulesByPart.{phi_operands_hold, stmt_operands_hold, block_operands_hold, operands_by_part}
use Rattle.gim_ast.proofs.ListTests.{and_cong, all_cong, all_map, all_flat_map}

pub too_many : (code : Code) (t : Ty) (operands : List Operand) → 4 ≤ length operands → well_typed_operation code t (map type_of operands) ≡ false
unfolding well_typed_operation
too_many code t [] h = refl
too_many code t (a ∷ []) h = grind arith
too_many code t (a ∷ b ∷ []) h = grind arith
too_many code t (a ∷ b ∷ c ∷ []) h = grind arith
too_many code t (a ∷ b ∷ c ∷ d ∷ rest) h = refl

in_phis : (f : Function) (phis : List Phi) → list_all (operand_holds f) (flat_map operands_of_phi phis) ≡ list_all (phi_operands_hold f) phis
in_phis f phis =
    all_flat_map (operand_holds f) operands_of_phi phis
    ∙ all_cong (λ phi. list_all (operand_holds f) (operands_of_phi phi)) (phi_operands_hold f) (λ phi. all_map (operand_holds f) (λ (arg : ℕ × Operand). arg.1) phi.args) phis

in_block : (f : Function) (block : Block) → list_all (operand_holds f) (operands_of_block block) ≡ block_operands_hold f block
in_block f block =
    let phis = flat_map operands_of_phi block.phis in
    let stmts = flat_map operands_of_stmt block.stmts in
    let end = list_all (operand_holds f) (operands_of_end block.end) in
    list_all-append (operand_holds f) (phis ++ stmts) (operands_of_end block.end)
    ∙ ap (λ b. b && end) (list_all-append (operand_holds f) phis stmts
    ∙ and_cong (list_all (operand_holds f) phis) (list_all (phi_operands_hold f) block.phis) (list_all (operand_holds f) stmts) (list_all (stmt_operands_hold f) block.stmts)
    (in_phis f block.phis) (all_flat_map (operand_holds f) operands_of_stmt block.stmts))

in_all : (f : Function) → list_all (operand_holds f) (operands_of f) ≡ list_all (block_operands_hold f) f.blocks
unfolding operands_of
in_all f = all_flat_map (operand_holds f) operands_of_block f.blocks ∙ all_cong (λ block. list_all (operand_holds f) (operands_of_block block)) (block_operands_hold f) (in_block f) f.blocks

pub operand_parts : (f : Function) → operands_hold f ≡ operands_by_part f
operand_parts f = ap (λ b. b && list_all (block_fits f) f.blocks) (in_all f)
