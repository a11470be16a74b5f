-- Which symbols can go on a complete expression.
use Rattle.std.specs.Prelude.{◌≡◌, ℕ, ◌≤◌, Some, ◌⊎◌}
use Rattle.pm_places.specs.declared.span.Span.{Span}
use Rattle.pd_text.specs.declared.symbol.Symbol.{Symbol}
use Rattle.pd_text.specs.declared.symbol.Symbol.TheVariants as symbols
use Rattle.pd_text.specs.declared.symbol.Mark.TheVariants as marks
use Rattle.pd_ast.specs.declared.operator.BinaryOperator.{BinaryOperator}
use Rattle.cond_subset.specs.Operators.{binary_operator, rank_of}

-- `(` after a name, and `::` after `wi`
abbrev pub IsCall : Symbol → Type 0
IsCall (symbols.Mark marks.Open at) = Unit {0}
IsCall (symbols.Mark marks.DoubleColon at) = Unit {0}
IsCall t = ⊥

abbrev pub IsQuestion : Symbol → Type 0
IsQuestion (symbols.Mark marks.Question at) = Unit {0}
IsQuestion t = ⊥

-- an operator of at most this rank
abbrev pub IsOperator : ℕ → Symbol → Type 0
IsOperator r t = (op : BinaryOperator × Span) × (binary_operator t ≡ Some op) × (rank_of op.0 ≤ r)

-- what can go on an expression of at most this rank
abbrev pub GoesOn : ℕ → Symbol → Type 0
GoesOn r t = IsCall t ⊎ (IsOperator r t ⊎ (IsQuestion t × (10 ≤ r)))
