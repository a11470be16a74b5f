use Rattle.std.proofs.Common.{ℕ, ◌<◌}
use Rattle.pm_term.specs.TermTrees.{tree_of}
use Rattle.bit_tables.specs.Spots.{AgreeAtPlace}
use Rattle.bit_tables.proofs.table.agree.Given as goal

abbrev pub invariant-loop-place : goal.invariant-loop-place
invariant-loop-place l =
    (place : ℕ) → place < l.place → AgreeAtPlace (tree_of l.left) (tree_of l.right) l.ty.width l.names place
