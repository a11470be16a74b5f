-- Maps that tell where the rows of names and the blocks stand.
use Rattle.std.specs.Prelude.{ℕ, ◌≡◌, List, length, nat_eq, unwrap_or}
use Rattle.std.specs.HashMap.{HashMap, get}
use Rattle.std.specs.declared.hash.FoldHasher.{FoldHasher}
use Rattle.std.specs.declared.hash.BuildHasherDefault.{BuildHasherDefault}
use Rattle.gim_ast.specs.declared.function.Function.{Function}
use Rattle.gim_ast.specs.declared.function.Block.{Block}
use Rattle.gim_ast.specs.declared.function.NameRow.{NameRow}
use Rattle.gim_run.specs.declared.indexed.Indexed.TheInside.{Inside}
use Rattle.gim_run.specs.Slots.{place_of}
use Rattle.gim_run.specs.Blocks.{place_of_block}

-- places by number
abbrev pub Places : Type 0
Places = HashMap ℕ ℕ (BuildHasherDefault FoldHasher)

-- the place of a number, or the count where the map has none
abbrev pub place_in : Places → ℕ → ℕ → ℕ
place_in places count n = unwrap_or (get nat_eq places n) count

-- the map tells the place of each version's first row
abbrev pub TellsRows : Places → List NameRow → Type 0
TellsRows places rows = (x : ℕ) → place_in places (length rows) x ≡ place_of rows x

-- the map tells the place of each number's first block
abbrev pub TellsBlocks : Places → List Block → Type 0
TellsBlocks places blocks = (n : ℕ) → place_in places (length blocks) n ≡ place_of_block blocks n

-- what contracts see
abbrev pub function_of : Inside → Function
function_of a = a.function.now

abbrev pub Tells : Inside → Type 0
Tells a = TellsRows a.rows a.function.now.names × TellsBlocks a.blocks a.function.now.blocks
