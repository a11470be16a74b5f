-- The blocks of a well-formed function are what the machine asks of them.
use Rattle.std.proofs.Common.{◌≡◌, Bool, true, false, ◌&&◌, List, [], ◌∷◌, ◌++◌, refl, sym, ◌∙◌}
use Rattle.std.specs.List.{list_all, flat_map}
use Rattle.std.proofs.lemmas.List.Folds.{list_all-append}
use Rattle.pm_wide.specs.declared.operand.Operand.{Operand}
use Rattle.gim_ast.specs.declared.function.Function.{Function}
use Rattle.gim_ast.specs.declared.function.Block.{Block}
use Rattle.gim_ast.specs.Functions.{operands_of, operands_of_block, operands_of_phi, operands_of_stmt, operands_of_end}
use Rattle.gim_ast.specs.WellFormed.{IsWellFormed, operand_holds, phi_fits, stmt_fits, end_fits, block_fits}
use Rattle.gim_run.specs.Slots.{stmt_holds}
use Rattle.gim_run.specs.Blocks.{phi_holds, end_holds, block_holds}
use Rattle.gim_run.proofs.SlotLemmas.{and_first, and_second}

both : (a b : Bool) → a ≡ true → b ≡ true → (a && b) ≡ true
both true b p q = q
both false b p q = p

-- what all of two lists have, each list has
front_all : {X : Type 0} (p : X → Bool) (xs ys : List X) → list_all p (xs ++ ys) ≡ true → list_all p xs ≡ true
front_all p xs ys h = and_first (list_all p xs) (list_all p ys) (sym (list_all-append p xs ys) ∙ h)

back_all : {X : Type 0} (p : X → Bool) (xs ys : List X) → list_all p (xs ++ ys) ≡ true → list_all p ys ≡ true
back_all p xs ys h = and_second (list_all p xs) (list_all p ys) (sym (list_all-append p xs ys) ∙ h)

-- a test of each, and a test of all parts of each
parts_hold : {X Y : Type 0} (p : Y → Bool) (q : X → Bool) (g : X → List Y) (xs : List X) → list_all q xs ≡ true → list_all p (flat_map g xs) ≡ true → list_all (λ x. q x && list_all p (g x)) xs ≡ true
parts_hold p q g [] each all = refl
parts_hold p q g (x ∷ xs) each all =
    let first : q x ≡ true = and_first (q x) (list_all q xs) each in
    let part : list_all p (g x) ≡ true = front_all p (g x) (flat_map g xs) all in
    both (q x && list_all p (g x)) (list_all (λ y. q y && list_all p (g y)) xs) (both (q x) (list_all p (g x)) first part)
    (parts_hold p q g xs (and_second (q x) (list_all q xs) each) (back_all p (g x) (flat_map g xs) all))

block_all : (f : Function) (block : Block) → (block_fits f block && list_all (operand_holds f) (operands_of_block block)) ≡ true → block_holds f block ≡ true
block_all f block h =
    let phis = list_all (phi_fits f) block.phis in
    let stmts = list_all (stmt_fits f) block.stmts in
    let fits : block_fits f block ≡ true = and_first (block_fits f block) (list_all (operand_holds f) (operands_of_block block)) h in
    let known : list_all (operand_holds f) (operands_of_block block) ≡ true = and_second (block_fits f block) (list_all (operand_holds f) (operands_of_block block)) h in
    let phi_part : List Operand = flat_map operands_of_phi block.phis in
    let stmt_part : List Operand = flat_map operands_of_stmt block.stmts in
    let end_part : List Operand = operands_of_end block.end in
    let front : list_all (operand_holds f) (phi_part ++ stmt_part) ≡ true = front_all (operand_holds f) (phi_part ++ stmt_part) end_part known in
    let fit = three phis stmts (end_fits f block.end) fits in
    join (list_all (phi_holds f) block.phis) (list_all (stmt_holds f) block.stmts) (end_holds f block)
    (parts_hold (operand_holds f) (phi_fits f) operands_of_phi block.phis fit.0 (front_all (operand_holds f) phi_part stmt_part front))
    (parts_hold (operand_holds f) (stmt_fits f) operands_of_stmt block.stmts fit.1 (back_all (operand_holds f) phi_part stmt_part front))
    (both (end_fits f block.end) (list_all (operand_holds f) end_part) fit.2 (back_all (operand_holds f) (phi_part ++ stmt_part) end_part known))
  where
    three : (a b c : Bool) → (a && b && c) ≡ true → (a ≡ true) × (b ≡ true) × (c ≡ true)
    three true true c e = (refl, refl, e)
    three true false c e = cc
    three false b c e = cc

    join : (a b c : Bool) → a ≡ true → b ≡ true → c ≡ true → (a && b && c) ≡ true
    join true true c p q r = r
    join true false c p q r = cc
    join false b c p q r = cc

pub blocks_hold : (f : Function) → IsWellFormed f → list_all (block_holds f) f.blocks ≡ true
unfolding operands_of
blocks_hold f well =
    each f.blocks (parts_hold (operand_holds f) (block_fits f) operands_of_block f.blocks
    (and_second (list_all (operand_holds f) (operands_of f)) (list_all (block_fits f) f.blocks) well.operands)
    (and_first (list_all (operand_holds f) (operands_of f)) (list_all (block_fits f) f.blocks) well.operands))
  where
    each : (blocks : List Block) → list_all (λ block. block_fits f block && list_all (operand_holds f) (operands_of_block block)) blocks ≡ true → list_all (block_holds f) blocks ≡ true
    each [] h = refl
    each (block ∷ blocks) h =
        both (block_holds f block) (list_all (block_holds f) blocks)
        (block_all f block (and_first (block_fits f block && list_all (operand_holds f) (operands_of_block block)) (list_all (λ b. block_fits f b && list_all (operand_holds f) (operands_of_block b)) blocks) h))
        (each blocks (and_second (block_fits f block && list_all (operand_holds f) (operands_of_block block)) (list_all (λ b. block_fits f b && list_all (operand_holds f) (operands_of_block b)) blocks) h))
