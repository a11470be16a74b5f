-- What the loop over arguments keeps.
use Rattle.std.proofs.Common.{◌≡◌, map, drop}
use Rattle.cond_subset.specs.Trees.{expr_of, exprs}
use Rattle.pd_names.specs.Parts.{parts_fault}
use Rattle.pd_names.proofs.parts.+parts.Given as goal

abbrev pub invariant-check_parts-loop-arg : goal.invariant-check_parts-loop-arg
invariant-check_parts-loop-arg l =
    parts_fault l.source l.known l.sight l.block (exprs (map expr_of l.args))
    ≡ parts_fault l.source l.known l.sight l.block (exprs (map expr_of (drop l.arg-index l.args)))
