-- What the loop over arguments keeps.
use Rattle.std.proofs.Common.{◌≡◌, map, drop}
use Rattle.cond_subset.specs.Trees.{expr_of, exprs}
use Rattle.cond_subset.specs.Names.{unknown_among}
use Rattle.cond_subset.proofs.names.+names.Given as goal

abbrev pub invariant-check_all-loop-arg : goal.invariant-check_all-loop-arg
invariant-check_all-loop-arg l =
    unknown_among l.source l.scope l.block (exprs (map expr_of l.args)) ≡ unknown_among l.source l.scope l.block (exprs (map expr_of (drop l.arg-index l.args)))
