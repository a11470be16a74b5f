-- The operators, and how tight each binds.
use Rattle.std.specs.Prelude.{ℕ, Option, Some, None, ◌==◌, if◌then◌else◌}
use Rattle.pm_places.specs.declared.span.Span.{Span}
use Rattle.pd_text.specs.declared.symbol.Symbol.{Symbol}
use Rattle.pd_text.specs.declared.symbol.Symbol.TheVariants as symbols
use Rattle.pd_text.specs.declared.symbol.Mark.{Mark}
use Rattle.pd_text.specs.declared.symbol.Mark.TheVariants as marks
use Rattle.pd_ast.specs.declared.operator.BinaryOperator.{BinaryOperator}
use Rattle.pd_ast.specs.declared.operator.BinaryOperator.TheVariants as binaries
use Rattle.pd_ast.specs.declared.operator.UnaryOperator.{UnaryOperator}
use Rattle.pd_ast.specs.declared.operator.UnaryOperator.TheVariants as unaries

abbrev pub binary_mark : Mark → Option BinaryOperator
binary_mark marks.DoubleBar = Some binaries.Or
binary_mark marks.DoubleAmpersand = Some binaries.And
binary_mark marks.Bar = Some binaries.BitOr
binary_mark marks.Caret = Some binaries.BitXor
binary_mark marks.Ampersand = Some binaries.BitAnd
binary_mark marks.Equal = Some binaries.Eq
binary_mark marks.NotEqual = Some binaries.Ne
binary_mark marks.Less = Some binaries.Lt
binary_mark marks.LessEqual = Some binaries.Le
binary_mark marks.Greater = Some binaries.Gt
binary_mark marks.GreaterEqual = Some binaries.Ge
binary_mark marks.Plus = Some binaries.Plus
binary_mark marks.Minus = Some binaries.Minus
binary_mark marks.Star = Some binaries.Times
binary_mark mark = None

abbrev pub unary_mark : Mark → Option UnaryOperator
unary_mark marks.Exclamation = Some unaries.Not
unary_mark marks.Tilde = Some unaries.Complement
unary_mark marks.Minus = Some unaries.Negate
unary_mark mark = None

-- an operator at its place, where there is one
abbrev pub placed : {X : Type 0} → Option X → Span → Option (X × Span)
placed None at = None
placed (Some op) at = Some (op, at)

abbrev pub binary_operator : Symbol → Option (BinaryOperator × Span)
binary_operator (symbols.Mark mark at) = placed (binary_mark mark) at
binary_operator symbol = None

abbrev pub unary_operator : Symbol → Option (UnaryOperator × Span)
unary_operator (symbols.Mark mark at) = placed (unary_mark mark) at
unary_operator symbol = None

-- how loosely an operator binds: from `*`, which binds tightest, to `||`; `?:` has 10, and what holds together by
-- itself 0
abbrev pub rank_of : BinaryOperator → ℕ
rank_of binaries.Times = 1
rank_of binaries.Plus = 2
rank_of binaries.Minus = 2
rank_of binaries.Lt = 3
rank_of binaries.Le = 3
rank_of binaries.Gt = 3
rank_of binaries.Ge = 3
rank_of binaries.Eq = 4
rank_of binaries.Ne = 4
rank_of binaries.BitAnd = 5
rank_of binaries.BitXor = 6
rank_of binaries.BitOr = 7
rank_of binaries.And = 8
rank_of binaries.Or = 9

-- an operator of this rank
abbrev pub of_rank : ℕ → Option (BinaryOperator × Span) → Option (BinaryOperator × Span)
of_rank r None = None
of_rank r (Some op) = if rank_of op.0 == r then Some op else None

abbrev pub ranked : ℕ → Symbol → Option (BinaryOperator × Span)
ranked r symbol = of_rank r (binary_operator symbol)
