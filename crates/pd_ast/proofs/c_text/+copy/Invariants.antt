use Rattle.std.proofs.Common.{◌≡◌, take}
use Rattle.pd_ast.proofs.c_text.+copy.Given as goal

abbrev pub invariant-copies-loop-expr : goal.invariant-copies-loop-expr
invariant-copies-loop-expr l = l.made ≡ take l.expr-index l.exprs
