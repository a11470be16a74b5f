use Rattle.std.proofs.Common.{◌≡◌, ◌++◌, map, drop}
use Rattle.pd_substitution.specs.Operators.{joined, operators_of_expr}
use Rattle.pd_substitution.proofs.operators.+operators_of_expr.Given as goal

abbrev pub invariant-among_exprs-loop-expr : goal.invariant-among_exprs-loop-expr
invariant-among_exprs-loop-expr l = l.made ++ joined (map operators_of_expr (drop l.expr-index l.exprs)) ≡ joined (map operators_of_expr l.exprs)
