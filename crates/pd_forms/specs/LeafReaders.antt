-- Readers of results that no condition stands round, on lists of symbols. They stand between code and grammar.
use Rattle.std.specs.Prelude.{ℕ, zero, suc, ◌+◌, length, Bool, ◌||◌, List, [], Option, Some, None, Ok, Err, if◌then◌else◌, is_some}
use Rattle.grammar.specs.Reading.{◌>>=◌, meant_at, more_at}
use Rattle.pm_ops.specs.declared.fault.PatternKind.TheVariants.{Syntax}
use Rattle.pm_places.specs.declared.span.Span.{Span}
use Rattle.pd_text.specs.declared.symbol.Symbol.{Symbol}
use Rattle.pd_text.specs.declared.symbol.Symbol.TheVariants as symbols
use Rattle.pd_text.specs.declared.symbol.Mark.TheVariants as marks
use Rattle.pd_text.specs.declared.symbol.Word.TheVariants as words
use Rattle.pd_forms.specs.SymbolReaders.{Read, mark_at, head_after_at}
use Rattle.pd_forms.specs.PartReaders.{braced_at}
use Rattle.pd_forms.specs.Results.{Leaf, capture, brace, operation, leaves}

-- readers of such results
abbrev pub Inner : Type 0
Inner = List Symbol → Read Leaf

-- an identifier but `if`, `switch` and `with`
abbrev pub leaf_name : Symbol → Option Span
leaf_name (symbols.Word words.If at) = None
leaf_name (symbols.Word words.Switch at) = None
leaf_name (symbols.Word words.With at) = None
leaf_name (symbols.Word word at) = Some at
leaf_name (symbols.Identifier at) = Some at
leaf_name symbol = None

abbrev pub leaf_name_at : List Symbol → Read Span
leaf_name_at input = meant_at leaf_name Syntax input

-- what a result begins with
pub data Start : Type 0 where
  captured : Span → Start
  braced : Span → Start
  opened : Span → Start

abbrev pub start : Symbol → Option Start
start (symbols.Capture c) = if c.joined || c.by_value then None else Some (captured c.at)
start (symbols.Mark marks.OpenBrace at) = Some (braced at)
start (symbols.Mark marks.Open at) = Some (opened at)
start symbol = None

abbrev pub begins_result : Symbol → Bool
begins_result symbol = is_some (start symbol)

-- an operation after its name
abbrev pub named_at : Inner → Span → Span → List Symbol → Read Leaf
named_at inner at name input = do
  head ← head_after_at name marks.Exclamation input
  ls ← more_at begins_result inner [] head.1
  close ← mark_at marks.Close ls.1
  Ok (operation at head.0 (leaves ls.0), close.1)

-- what stands after the first symbol
abbrev pub after_start : Inner → Start → List Symbol → Read Leaf
after_start inner (captured at) input = Ok (capture at, input)
after_start inner (braced at) input = braced_at input >>= λ e. Ok (brace at e.0, e.1)
after_start inner (opened at) input = leaf_name_at input >>= λ name. named_at inner at name.0 name.1

abbrev pub leaf_at : Inner → List Symbol → Read Leaf
leaf_at inner input = meant_at start Syntax input >>= λ first. after_start inner first.0 first.1

-- the readers that serve below n symbols
abbrev pub leaves_at : ℕ → Inner
leaves_at zero input = Err (Syntax, input)
leaves_at (suc n) input = leaf_at (leaves_at n) input

-- a whole result of this kind
abbrev pub whole_leaf_at : Inner
whole_leaf_at input = leaves_at (length input + 1) input
