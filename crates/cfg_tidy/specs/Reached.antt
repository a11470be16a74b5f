-- The blocks that jumps reach from the entry.
use Rattle.std.specs.Prelude.{◌≡◌, ◌==◌, ℕ, IsTrue, List, [], ◌∷◌}
use Rattle.std.specs.Option.{option_map_or}
use Rattle.gim_ast.specs.declared.function.Block.{Block}
use Rattle.gim_ast.specs.Functions.{targets_of, first_where}
use Rattle.gim_ast.specs.WellFormed.{is_among}

-- where the block of a number leads
abbrev pub leads_to : List Block → ℕ → List ℕ
leads_to blocks n = option_map_or (λ (block : Block). targets_of block.end) (first_where (λ (block : Block). block.number == n) blocks) []

-- the entry is reached, and so is each block that a reached one leads to
pub data IsReached (blocks : List Block) : ℕ → Type 0 where
  entry : (first : Block) (rest : List Block) → blocks ≡ first ∷ rest → IsReached blocks first.number
  jump : (m n : ℕ) → IsTrue (is_among n (leads_to blocks m)) → IsReached blocks m → IsReached blocks n
