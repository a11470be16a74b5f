use Rattle.std.proofs.Common.{◌≡◌, false, map, take}
use Rattle.pd_substitution.specs.Substituted.{expr_with}
use Rattle.pd_substitution.proofs.c_text.+c_with.Given as goal

abbrev pub invariant-all_anew-loop-expr : goal.invariant-all_anew-loop-expr
invariant-all_anew-loop-expr l =
    (l.made ≡ map (expr_with l.by) (take l.expr-index l.exprs))
    × (l.changed ≡ false → l.made ≡ take l.expr-index l.exprs)
