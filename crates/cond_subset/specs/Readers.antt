-- Readers of expressions on lists of symbols. They stand between code and grammar: the contracts above rest on the
-- grammar and the faults alone.
use Rattle.std.specs.Prelude.{ℕ, zero, suc, ◌==◌, Bool, true, false, List, [], ◌∷◌, length, Option, Some, None, Ok, Err, if◌then◌else◌}
use Rattle.grammar.specs.Reading.{Answer, ◌>>=◌, meant_at, steps_at, more_at}
use Rattle.pm_ops.specs.declared.fault.PatternKind.{PatternKind}
use Rattle.pm_ops.specs.declared.fault.PatternKind.TheVariants.{CSyntax}
use Rattle.pm_places.specs.declared.span.Span.{Span}
use Rattle.pd_text.specs.declared.symbol.Symbol.{Symbol}
use Rattle.pd_text.specs.declared.symbol.Symbol.TheVariants as symbols
use Rattle.pd_text.specs.declared.symbol.Mark.{Mark}
use Rattle.pd_text.specs.declared.symbol.Mark.TheVariants as marks
use Rattle.pd_text.specs.declared.symbol.Word.TheVariants as words
use Rattle.pd_text.specs.Meanings as meanings
use Rattle.pd_ast.specs.declared.operator.BinaryOperator.{BinaryOperator}
use Rattle.pd_ast.specs.declared.operator.UnaryOperator.{UnaryOperator}
use Rattle.cond_subset.specs.declared.tree.Callee.{Callee}
use Rattle.cond_subset.specs.Operators.{ranked, unary_mark}
use Rattle.cond_subset.specs.Trees.{Expr, number, capture, named, parens, unary, binary, choose, call, exprs}

-- what a reader of C parts answers
abbrev pub Read : Type 0 → Type 0
Read A = Answer Symbol PatternKind A

-- readers of expressions that bind at least as tight as a rank
abbrev pub Inner : Type 0
Inner = ℕ → List Symbol → Read Expr

-- the kind of each fault of syntax in a C part
abbrev pub offends : PatternKind
offends = CSyntax

abbrev pub mark_at : Mark → List Symbol → Read Span
mark_at asked input = meant_at (meanings.mark asked) CSyntax input

abbrev pub identifier_at : List Symbol → Read Span
identifier_at input = meant_at meanings.identifier CSyntax input

-- ',' and an argument
abbrev pub further_at : Inner → List Symbol → Read Expr
further_at inner input = mark_at marks.Comma input >>= λ comma. inner 10 comma.1

abbrev pub is_comma : Symbol → Bool
is_comma (symbols.Mark marks.Comma at) = true
is_comma symbol = false

-- one argument or more
abbrev pub args_at : Inner → List Symbol → Read (List Expr)
args_at inner input = inner 10 input >>= λ first. more_at is_comma (further_at inner) (first.0 ∷ []) first.1

-- the arguments of a call after its `(`, and the `)`
abbrev pub closed_at : Inner → Callee → List Symbol → Read Expr
closed_at inner callee (symbols.Mark marks.Close at ∷ rest) = Ok (call callee (exprs []), rest)
closed_at inner callee input = do
  args ← args_at inner input
  right ← mark_at marks.Close args.1
  Ok (call callee (exprs args.0), right.1)

-- '(' and the arguments
abbrev pub call_at : Inner → Callee → List Symbol → Read Expr
call_at inner callee input = mark_at marks.Open input >>= λ left. closed_at inner callee left.1

-- what stands after a name
abbrev pub named_at : Inner → Span → List Symbol → Read Expr
named_at inner at (symbols.Mark marks.Open left ∷ rest) = closed_at inner (record { wide = None; name = at }) rest
named_at inner at input = Ok (named at, input)

-- what stands after `wi::`
abbrev pub wide_at : Inner → Span → List Symbol → Read Expr
wide_at inner at input = identifier_at input >>= λ name. call_at inner (record { wide = Some at; name = name.0 }) name.1

-- what stands after `wi`
abbrev pub after_wide_at : Inner → Span → List Symbol → Read Expr
after_wide_at inner at (symbols.Mark marks.DoubleColon colons ∷ rest) = wide_at inner at rest
after_wide_at inner at input = named_at inner at input

-- what stands after `(`
abbrev pub parens_at : Inner → Span → List Symbol → Read Expr
parens_at inner at input = do
  a ← inner 10 input
  right ← mark_at marks.Close a.1
  Ok (parens at a.0, right.1)

-- the operand of an operator that stands before it
abbrev pub under_at : Inner → UnaryOperator → Span → List Symbol → Read Expr
under_at inner op at input = inner 0 input >>= λ a. Ok (unary op at a.0, a.1)

-- an operator and its operand, if the mark is an operator
abbrev pub prefixed_at : Inner → Option UnaryOperator → Span → List Symbol → List Symbol → Read Expr
prefixed_at inner None at input rest = Err (CSyntax, input)
prefixed_at inner (Some op) at input rest = under_at inner op at rest

-- a capture, if it is written with one `@`
abbrev pub capture_at : Option Span → List Symbol → List Symbol → Read Expr
capture_at None input rest = Err (CSyntax, input)
capture_at (Some at) input rest = Ok (capture at, rest)

-- what stands between two operators
abbrev pub operand_at : Inner → List Symbol → Read Expr
operand_at inner [] = Err (CSyntax, [])
operand_at inner (symbols.Number at ∷ rest) = Ok (number at, rest)
operand_at inner (symbols.Capture found ∷ rest) = capture_at (meanings.plain_capture (symbols.Capture found)) (symbols.Capture found ∷ rest) rest
operand_at inner (symbols.Identifier at ∷ rest) = named_at inner at rest
operand_at inner (symbols.Word words.Wide at ∷ rest) = after_wide_at inner at rest
operand_at inner (symbols.Word found at ∷ rest) = named_at inner at rest
operand_at inner (symbols.Mark marks.Open at ∷ rest) = parens_at inner at rest
operand_at inner (symbols.Mark found at ∷ rest) = prefixed_at inner (unary_mark found) at (symbols.Mark found at ∷ rest) rest
operand_at inner (t ∷ rest) = Err (CSyntax, t ∷ rest)

-- the operator of rank k + 1 that stands here, and what is after it
abbrev pub and_rest : Option (BinaryOperator × Span) → List Symbol → Option ((BinaryOperator × Span) × List Symbol)
and_rest None rest = None
and_rest (Some op) rest = Some (op, rest)

abbrev pub operator_here : ℕ → List Symbol → Option ((BinaryOperator × Span) × List Symbol)
operator_here k [] = None
operator_here k (t ∷ rest) = and_rest (ranked (suc k) t) rest

-- its right operand, which binds tighter
abbrev pub right_at : Inner → ℕ → Expr → BinaryOperator × Span → List Symbol → Read Expr
right_at inner k left op input = inner k input >>= λ right. Ok (binary op.0 op.1 left right.0, right.1)

abbrev pub operated : Inner → ℕ → Expr → Option ((BinaryOperator × Span) × List Symbol) → Option (Read Expr)
operated inner k left None = None
operated inner k left (Some here) = Some (right_at inner k left here.0 here.1)

abbrev pub operator_step : Inner → ℕ → Expr → List Symbol → Option (Read Expr)
operator_step inner k left input = operated inner k left (operator_here k input)

-- operators of rank k + 1, as many as there are
abbrev pub chain_at : Inner → ℕ → Expr → List Symbol → Read Expr
chain_at inner k left input = steps_at (operator_step inner k) (length input) left input

-- the rest of `c ? a : b`, where there is one
abbrev pub choice_at : Inner → Expr → List Symbol → Read Expr
choice_at inner c (symbols.Mark marks.Question at ∷ rest) = do
  a ← inner 10 rest
  colon ← mark_at marks.Colon a.1
  b ← inner 10 colon.1
  Ok (choose at c a.0 b.0, b.1)
choice_at inner c input = Ok (c, input)

-- what goes on at rank k + 1: `?:` or operators
abbrev pub link_at : Inner → ℕ → Expr → List Symbol → Read Expr
link_at inner k left input = if k == 9 then choice_at inner left input else chain_at inner k left input

-- what goes on at each rank up to this one
abbrev pub links_at : Inner → ℕ → Expr → List Symbol → Read Expr
links_at inner zero left input = Ok (left, input)
links_at inner (suc k) left input = links_at inner k left input >>= λ x. link_at inner k x.0 x.1

abbrev pub within_at : Inner → ℕ → List Symbol → Read Expr
within_at inner r input = operand_at inner input >>= λ a. links_at inner r a.0 a.1

-- the readers that serve below n symbols
abbrev pub readers : ℕ → Inner
readers zero r input = Err (CSyntax, input)
readers (suc n) r input = within_at (readers n) r input
