use Rattle.std.proofs.Common.{ℕ, ◌<◌}
use Rattle.pm_term.specs.TermTrees.{tree_of}
use Rattle.bit_tables.specs.Spots.{AgreeAt}
use Rattle.bit_tables.proofs.table.agree_at.Given as goal

abbrev pub invariant-loop-mask : goal.invariant-loop-mask
invariant-loop-mask l =
    (mask : ℕ) → mask < l.mask → AgreeAt (tree_of l.left) (tree_of l.right) l.ty.width l.names l.place mask
