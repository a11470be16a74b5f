-- A block that goes, with its phis and statements and the phi arguments for it elsewhere.
use Rattle.std.specs.Prelude.{ℕ, ◌==◌, Bool, not, map, filter}
use Rattle.gim_ast.specs.declared.function.Function.{Function}
use Rattle.gim_ast.specs.declared.function.Block.{Block}
use Rattle.cfg_tidy.specs.Branches.{without_arg}

abbrev pub block_stays : ℕ → Block → Bool
block_stays n block = not (block.number == n)

-- no phi of the block has an argument for block n
abbrev pub without_args : ℕ → Block → Block
without_args n block = record block { phis = map (without_arg n) block.phis }

unfoldable pub dropped : ℕ → Function → Function
dropped n f = record f { blocks = map (without_args n) (filter (block_stays n) f.blocks) }
