use Rattle.std.proofs.Common.{◌≡◌, ◌++◌, Some, length, map, take, slice_get}
use Rattle.gim_ast.specs.declared.function.Block.{Block}
use Rattle.value_numbers.specs.Spots.{spot_at, spots_of_block}
use Rattle.value_numbers.proofs.places.push_block.Given as goal

abbrev pub invariant-loop-stmt : goal.invariant-loop-stmt
invariant-loop-stmt l = (home : Block) → slice_get l.function.blocks l.block ≡ Some home →
    (map (spot_at l.function) l.places ≡ map (spot_at l.function) l.initial.places ++ map Some (take l.stmt (spots_of_block home))) × (l.stmt-end ≡ length home.stmts)
