-- The statements of a function in program order, each with the point where it stands.
use Rattle.std.specs.Prelude.{◌≡◌, ℕ, Option, Some, List, [], ◌∷◌, map, drop, slice_get}
use Rattle.std.specs.List.{flat_map}
use Rattle.std.specs.Option.{option_map, option_and_then}
use Rattle.gim_ast.specs.declared.function.Function.{Function}
use Rattle.gim_ast.specs.declared.function.Block.{Block}
use Rattle.gim_ast.specs.declared.function.Stmt.{Stmt}
use Rattle.gim_ast.specs.Functions.{stmt_name}
use Rattle.value_numbers.specs.declared.places.Place.{Place}

-- a statement, the number of its block, and the names that the block is still to assign before it
pub record Spot : Type 0 where
  pub home : ℕ
  pub stmt : Stmt
  pub left : List ℕ

-- of a block of the number
abbrev pub spots_in : ℕ → List Stmt → List Spot
spots_in n [] = []
spots_in n (stmt ∷ stmts) =
    record { home = n; stmt = stmt; left = map stmt_name (stmt ∷ stmts) } ∷ spots_in n stmts

abbrev pub spots_of_block : Block → List Spot
spots_of_block block = spots_in block.number block.stmts

unfoldable pub spots_of : Function → List Spot
spots_of f = flat_map spots_of_block f.blocks

-- ---- by places

abbrev pub spot_in : Block → ℕ → Option Spot
spot_in block k = option_map
    (λ stmt. record { home = block.number; stmt = stmt; left = map stmt_name (drop k block.stmts) })
    (slice_get block.stmts k)

-- the statement at a place
abbrev pub spot_at : Function → Place → Option Spot
spot_at f place = option_and_then (λ (block : Block). spot_in block place.stmt)
    (slice_get f.blocks place.block)

-- these places are those of these statements, one by one
abbrev pub ArePlaces : Function → List Place → List Spot → Type 0
ArePlaces f places spots = map (spot_at f) places ≡ map Some spots
