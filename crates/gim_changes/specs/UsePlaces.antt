-- Where a function uses its names: each operand place that a name stands in, in program order.
use Rattle.std.specs.Prelude.{ℕ, ◌==◌, Bool, List, [], ◌∷◌, ◌++◌, map}
use Rattle.std.specs.List.{flat_map, enumerate_from}
use Rattle.pm_wide.specs.declared.operand.Operand.{Operand}
use Rattle.pm_wide.specs.declared.operand.Operand.TheVariants.{Name, Const}
use Rattle.gim_ast.specs.declared.function.Function.{Function}
use Rattle.gim_ast.specs.declared.function.Block.{Block}
use Rattle.gim_ast.specs.Functions.{operands_of_phi, operands_of_stmt, operands_of_end}
use Rattle.gim_ast.specs.Readable.{Use}

-- the name, the place of the block among the blocks from 0, the phi, statement or end of the block from 1, and the
-- position among the operands of that item from 0
pub record UsePlace : Type 0 where
  pub name : ℕ
  pub block : ℕ
  pub item : ℕ
  pub operand : ℕ

-- the operands of each item of a block: its phis, its statements and its end
abbrev pub items_of : Block → List (List Operand)
items_of block = map operands_of_phi block.phis ++ map operands_of_stmt block.stmts ++ operands_of_end block.end ∷ []

-- a name among operands is used at its place, and a constant uses none
abbrev pub places_of_operand : ℕ → ℕ → ℕ × Operand → List UsePlace
places_of_operand block item (at, Name x t) = record { name = x; block = block; item = item; operand = at } ∷ []
places_of_operand block item (at, Const w) = []

abbrev pub places_in_item : ℕ → ℕ × List Operand → List UsePlace
places_in_item block item = flat_map (places_of_operand block item.0) (enumerate_from 0 item.1)

abbrev pub places_in_block : ℕ × Block → List UsePlace
places_in_block block = flat_map (places_in_item block.0) (enumerate_from 1 (items_of block.1))

unfoldable pub use_places : Function → List UsePlace
use_places f = flat_map places_in_block (enumerate_from 0 f.blocks)

-- the place is one of the name
abbrev pub is_place_of : ℕ → UsePlace → Bool
is_place_of x place = place.name == x

-- what a place tells of the item and the name, and what the check for readability tells of them at a use
abbrev pub item_and_name : UsePlace → ℕ × ℕ
item_and_name place = (place.item, place.name)

abbrev pub item_and_name_read : Use → ℕ × ℕ
item_and_name_read place = (place.item, place.name)
