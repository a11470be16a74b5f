-- What the loop over arguments keeps.
use Rattle.std.proofs.Common.{◌≡◌, [], map, drop}
use Rattle.cond_subset.specs.Trees.{expr_of, exprs}
use Rattle.cond_subset.specs.Making.{made_after}
use Rattle.cond_subset.proofs.making.+making.Given as goal

abbrev pub invariant-make_all-loop-arg : goal.invariant-make_all-loop-arg
invariant-make_all-loop-arg l =
    made_after l.source l.scope l.block [] (exprs (map expr_of l.args)) ≡ made_after l.source l.scope l.block l.made (exprs (map expr_of (drop l.arg-index l.args)))
