use Rattle.std.proofs.Common.{◌≡◌, ◌++◌, map, drop}
use Rattle.pattern_uses.specs.Captures.{joined}
use Rattle.pattern_uses.specs.Mentions.{mentions_of_expr}
use Rattle.pattern_uses.proofs.mention.+mentions_of_expr.Given as goal

abbrev pub invariant-among_exprs-loop-expr : goal.invariant-among_exprs-loop-expr
invariant-among_exprs-loop-expr l =
    l.made ++ joined (map mentions_of_expr (drop l.expr-index l.exprs)) ≡ joined (map mentions_of_expr l.exprs)
