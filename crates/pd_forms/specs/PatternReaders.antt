-- Readers of patterns on lists of symbols. They stand between code and grammar: the contracts above rest on the grammar
-- and the faults alone.
use Rattle.std.specs.Prelude.{ℕ, zero, suc, ◌+◌, length, Bool, List, [], Option, Some, None, Ok, Err, if◌then◌else◌, is_some}
use Rattle.grammar.specs.Reading.{◌>>=◌, meant_at, more_at}
use Rattle.pm_ops.specs.declared.fault.PatternKind.TheVariants.{Syntax}
use Rattle.pm_places.specs.declared.span.Span.{Span}
use Rattle.pd_text.specs.declared.symbol.Symbol.{Symbol}
use Rattle.pd_text.specs.declared.symbol.Symbol.TheVariants as symbols
use Rattle.pd_text.specs.declared.symbol.Capture.{Capture}
use Rattle.pd_text.specs.declared.symbol.Mark.TheVariants as marks
use Rattle.pd_forms.specs.SymbolReaders.{Read, mark_at, identifier_at, joined, maybe_at, head_after_at}
use Rattle.pd_forms.specs.Trees.{Pattern, capture, predicate, operation, operands}

-- readers of patterns
abbrev pub Inner : Type 0
Inner = List Symbol → Read Pattern

-- what a pattern begins with
pub data Start : Type 0 where
  captured : Capture → Start
  named : Span → Start
  opened : Span → Start

abbrev pub start : Symbol → Option Start
start (symbols.Capture c) = if c.joined then None else Some (captured c)
start (symbols.Identifier at) = Some (named at)
start (symbols.Word word at) = Some (named at)
start (symbols.Mark marks.Open at) = Some (opened at)
start symbol = None

abbrev pub begins_pattern : Symbol → Bool
begins_pattern symbol = is_some (start symbol)

-- an operation after its `(`
abbrev pub operation_at : Inner → Span → List Symbol → Read Pattern
operation_at inner at input = do
  name ← identifier_at input
  head ← head_after_at name.0 marks.Question name.1
  c ← maybe_at joined head.1
  ps ← more_at begins_pattern inner [] c.1
  close ← mark_at marks.Close ps.1
  Ok (operation at head.0 c.0 (operands ps.0), close.1)

-- what stands after the first symbol
abbrev pub after_start : Inner → Start → List Symbol → Read Pattern
after_start inner (captured c) input = Ok (capture c, input)
after_start inner (named at) input = maybe_at joined input >>= λ c. Ok (predicate at c.0, c.1)
after_start inner (opened at) input = operation_at inner at input

abbrev pub pattern_at : Inner → List Symbol → Read Pattern
pattern_at inner input = meant_at start Syntax input >>= λ first. after_start inner first.0 first.1

-- the readers that serve below n symbols
abbrev pub patterns_at : ℕ → Inner
patterns_at zero input = Err (Syntax, input)
patterns_at (suc n) input = pattern_at (patterns_at n) input

-- a whole pattern
abbrev pub whole_pattern_at : Inner
whole_pattern_at input = patterns_at (length input + 1) input
