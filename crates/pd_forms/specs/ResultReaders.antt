-- Readers of results on lists of symbols. They stand between code and grammar.
use Rattle.std.specs.Prelude.{ℕ, zero, suc, ◌+◌, Bool, true, false, ◌&&◌, List, [], ◌∷◌, length, Option, Some, None, Ok, Err, if◌then◌else◌}
use Rattle.grammar.specs.Reading.{◌>>=◌, meant_at, first_is, and_item, steps_at}
use Rattle.pm_ops.specs.declared.fault.PatternKind.TheVariants.{Syntax}
use Rattle.pm_places.specs.declared.span.Span.{Span}
use Rattle.pd_text.specs.declared.symbol.Symbol.{Symbol}
use Rattle.pd_text.specs.declared.symbol.Symbol.TheVariants as symbols
use Rattle.pd_text.specs.declared.symbol.Mark.TheVariants as marks
use Rattle.pd_text.specs.declared.symbol.Word.TheVariants as words
use Rattle.cond_subset.specs.Trees.{Expr}
use Rattle.cond_subset.specs.Declarations.{Decl}
use Rattle.pd_forms.specs.SymbolReaders.{Read, mark_at, word_at}
use Rattle.pd_forms.specs.PartReaders.{condition_at, declarations_at, braced_at}
use Rattle.pd_forms.specs.Results.{capture, brace, Result, leaf, when, choose, switch, bound, results}
use Rattle.pd_forms.specs.LeafReaders.{Start, captured, braced, opened, start, begins_result, leaves_at, named_at}

-- readers of results
abbrev pub Inner : Type 0
Inner = List Symbol → Read Result

-- what stands after the `(` of a result
pub data Opening : Type 0 where
  conditional : Opening
  switched : Opening
  with_block : Opening
  named : Span → Opening

abbrev pub opening : Symbol → Option Opening
opening (symbols.Word words.If at) = Some conditional
opening (symbols.Word words.Switch at) = Some switched
opening (symbols.Word words.With at) = Some with_block
opening (symbols.Word word at) = Some (named at)
opening (symbols.Identifier at) = Some (named at)
opening symbol = None

-- an `if` without a second part
abbrev pub is_case : Result → Bool
is_case (when c a) = true
is_case r = false

abbrev pub ends_with_case : List Result → Bool
ends_with_case [] = false
ends_with_case (r ∷ []) = is_case r
ends_with_case (r ∷ s ∷ rs) = ends_with_case (s ∷ rs)

-- the `)` of an `if` without a second part, and with one
abbrev pub close_if_at : Expr → Result → List Symbol → Read Result
close_if_at c a input = mark_at marks.Close input >>= λ close. Ok (when c a, close.1)

abbrev pub close_if_else_at : Expr → Result → Result → List Symbol → Read Result
close_if_else_at c a b input = mark_at marks.Close input >>= λ close. Ok (choose c a b, close.1)

-- what stands after the first part of an `if`: a second one, if a result begins here
abbrev pub after_first_at : Inner → Expr → Result → List Symbol → Read Result
after_first_at inner c a input =
    if first_is begins_result input then (inner input >>= λ b. close_if_else_at c a b.0 b.1) else close_if_at c a input

-- what stands after `(if`
abbrev pub conditional_at : Inner → List Symbol → Read Result
conditional_at inner input = do
  c ← condition_at input
  a ← inner c.1
  after_first_at inner c.0 a.0 a.1

-- '(' 'if' '(' cexpr ')' result ')'
abbrev pub case_at : Inner → List Symbol → Read Result
case_at inner input = do
  left ← mark_at marks.Open input
  word ← word_at words.If left.1
  c ← condition_at word.1
  a ← inner c.1
  close_if_at c.0 a.0 a.1

-- after a case a further item, if a result begins here
abbrev pub switch_step : Inner → List Result → List Symbol → Option (Read (List Result))
switch_step inner before input = if ends_with_case before && first_is begins_result input then Some (and_item before (inner input)) else None

abbrev pub items_at : Inner → List Result → List Symbol → Read (List Result)
items_at inner before input = steps_at (switch_step inner) (length input) before input

-- what stands after `(switch`: a case, and items after it
abbrev pub switched_at : Inner → List Symbol → Read Result
switched_at inner input = do
  first ← case_at inner input
  all ← items_at inner (first.0 ∷ []) first.1
  close ← mark_at marks.Close all.1
  Ok (switch (results all.0), close.1)

-- the `)` of a `with`
abbrev pub close_with_at : List Decl → Result → List Symbol → Read Result
close_with_at ds a input = mark_at marks.Close input >>= λ close. Ok (bound ds a, close.1)

-- what stands after `(with`
abbrev pub with_at : Inner → List Symbol → Read Result
with_at inner input = do
  ds ← declarations_at input
  a ← inner ds.1
  close_with_at ds.0 a.0 a.1

-- an operation after its name
abbrev pub leaf_named_at : Span → Span → List Symbol → Read Result
leaf_named_at at name input = named_at (leaves_at (length input + 1)) at name input >>= λ l. Ok (leaf l.0, l.1)

-- what stands after the `(` and a name or word
abbrev pub after_opening : Inner → Span → Opening → List Symbol → Read Result
after_opening inner at conditional input = conditional_at inner input
after_opening inner at switched input = switched_at inner input
after_opening inner at with_block input = with_at inner input
after_opening inner at (named name) input = leaf_named_at at name input

-- what stands after the `(`
abbrev pub opened_at : Inner → Span → List Symbol → Read Result
opened_at inner at input = meant_at opening Syntax input >>= λ o. after_opening inner at o.0 o.1

-- what stands after the first symbol
abbrev pub after_start : Inner → Start → List Symbol → Read Result
after_start inner (captured at) input = Ok (leaf (capture at), input)
after_start inner (braced at) input = braced_at input >>= λ e. Ok (leaf (brace at e.0), e.1)
after_start inner (opened at) input = opened_at inner at input

abbrev pub result_at : Inner → List Symbol → Read Result
result_at inner input = meant_at start Syntax input >>= λ first. after_start inner first.0 first.1

-- the readers that serve below n symbols
abbrev pub results_at : ℕ → Inner
results_at zero input = Err (Syntax, input)
results_at (suc n) input = result_at (results_at n) input

-- a whole result
abbrev pub whole_result_at : Inner
whole_result_at input = results_at (length input + 1) input
