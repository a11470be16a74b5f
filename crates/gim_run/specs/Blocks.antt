-- What the machine knows of a block, and of what its phis have read.
use Rattle.std.specs.Prelude.{ℕ, zero, suc, ◌==◌, nat_lt, nat_le, Bool, ◌&&◌, if◌then◌else◌, List, [], ◌∷◌, length}
use Rattle.std.specs.List.{list_all}
use Rattle.pm_wide.specs.Types.{Word, same_type}
use Rattle.gim_ast.specs.declared.function.Function.{Function}
use Rattle.gim_ast.specs.declared.function.Block.{Block}
use Rattle.gim_ast.specs.declared.function.Phi.{Phi}
use Rattle.gim_ast.specs.Functions.{operands_of_phi, operands_of_end}
use Rattle.gim_ast.specs.WellFormed.{operand_holds, phi_fits, end_fits}
use Rattle.gim_ast.specs.Runs.{Env, phi_word, name_type}
use Rattle.gim_run.specs.Slots.{place_of, stmt_holds}

-- a phi is well typed, and so are the operands in it
abbrev pub phi_holds : Function → Phi → Bool
phi_holds f phi = phi_fits f phi && list_all (operand_holds f) (operands_of_phi phi)

abbrev pub end_holds : Function → Block → Bool
end_holds f block = end_fits f block.end && list_all (operand_holds f) (operands_of_end block.end)

abbrev pub block_holds : Function → Block → Bool
block_holds f block = list_all (phi_holds f) block.phis && list_all (stmt_holds f) block.stmts && end_holds f block

-- a phi's name with the word that it reads
abbrev pub phi_pair : Function → ℕ → Env → Phi → ℕ × Word
phi_pair f from env phi = (phi.name, phi_word f from env phi)

-- a name that has a row, with a word of its type
abbrev pub pair_fits : Function → ℕ × Word → Bool
pair_fits f pair = nat_lt (place_of f.names pair.0) (length f.names) && same_type pair.1.ty (name_type f pair.0)

-- the place of the first block of the number, or the number of blocks
abbrev pub place_of_block : List Block → ℕ → ℕ
place_of_block [] n = zero
place_of_block (block ∷ blocks) n = if block.number == n then zero else suc (place_of_block blocks n)

-- the phis of the block have room
abbrev pub has_room : ℕ → Block → Bool
has_room room block = nat_le (length block.phis) room
