-- C parts as plain trees, with the place of each leaf, operator and call in the source.
use Rattle.std.specs.Prelude.{List, [], ◌∷◌}
use Rattle.pm_places.specs.declared.span.Span.{Span}
use Rattle.pd_ast.specs.declared.operator.BinaryOperator.{BinaryOperator}
use Rattle.pd_ast.specs.declared.operator.UnaryOperator.{UnaryOperator}
use Rattle.cond_subset.specs.declared.tree.Callee.{Callee}
use Rattle.cond_subset.specs.declared.tree.ExprText.{ExprText, ExprText-F, fold-ExprText}
use Rattle.cond_subset.specs.declared.tree.ExprText.TheOpen.{Number, Capture, Name, Parens, Unary, Binary, Choose, Call}

mutual
  pub data Expr : Type 0 where
    number : Span → Expr
    capture : Span → Expr
    named : Span → Expr
    parens : Span → Expr → Expr
    unary : UnaryOperator → Span → Expr → Expr
    binary : BinaryOperator → Span → Expr → Expr → Expr
    choose : Span → Expr → Expr → Expr → Expr
    call : Callee → Exprs → Expr

  pub data Exprs : Type 0 where
    nil : Exprs
    cons : Expr → Exprs → Exprs

-- the expressions of a list
abbrev pub exprs : List Expr → Exprs
exprs [] = nil
exprs (e ∷ es) = cons e (exprs es)

-- one layer, with plain trees in place of the parts
abbrev pub expr_step : ExprText-F Expr → Expr
expr_step (Number at) = number at
expr_step (Capture at) = capture at
expr_step (Name at) = named at
expr_step (Parens at a) = parens at a
expr_step (Unary op at a) = unary op at a
expr_step (Binary op at a b) = binary op at a b
expr_step (Choose at c a b) = choose at c a b
expr_step (Call callee args) = call callee (exprs args)

-- the plain tree of an expression of the code
abbrev pub expr_of : ExprText → Expr
expr_of = fold-ExprText Expr expr_step
