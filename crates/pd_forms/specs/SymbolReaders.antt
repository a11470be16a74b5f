-- Readers of one symbol, and of symbols that may be left out, on lists of symbols.
use Rattle.std.specs.Prelude.{List, [], ◌∷◌, Option, Some, None, Ok, if◌then◌else◌}
use Rattle.grammar.specs.Reading.{Answer, ◌>>=◌, meant_at}
use Rattle.pm_ops.specs.declared.fault.PatternKind.{PatternKind}
use Rattle.pm_ops.specs.declared.fault.PatternKind.TheVariants.{Syntax, CSyntax}
use Rattle.pm_places.specs.declared.span.Span.{Span}
use Rattle.pd_text.specs.declared.symbol.Symbol.{Symbol}
use Rattle.pd_text.specs.declared.symbol.Symbol.TheVariants as symbols
use Rattle.pd_text.specs.declared.symbol.Capture.{Capture}
use Rattle.pd_text.specs.declared.symbol.Mark.{Mark}
use Rattle.pd_text.specs.declared.symbol.Mark.TheVariants as marks
use Rattle.pd_text.specs.declared.symbol.Word.{Word}
use Rattle.pd_text.specs.Meanings as meanings
use Rattle.pd_forms.specs.declared.tree.HeadText.{HeadText}

-- what a reader answers
abbrev pub Read : Type 0 → Type 0
Read A = Answer Symbol PatternKind A

-- the kind of each fault of syntax outside C parts
abbrev pub offends : PatternKind
offends = Syntax

abbrev pub mark_at : Mark → List Symbol → Read Span
mark_at asked input = meant_at (meanings.mark asked) Syntax input

abbrev pub identifier_at : List Symbol → Read Span
identifier_at input = meant_at meanings.identifier Syntax input

-- a capture that stands right behind a name, with one `@` or two
abbrev pub joined : Symbol → Option Capture
joined (symbols.Capture capture) = if capture.joined then Some capture else None
joined symbol = None

-- one symbol with a meaning, where the next has one
abbrev pub maybe_as : {A : Type 0} → Symbol → List Symbol → Option A → Read (Option A)
maybe_as t rest None = Ok (None, t ∷ rest)
maybe_as t rest (Some x) = Ok (Some x, rest)

abbrev pub maybe_at : {A : Type 0} → (Symbol → Option A) → List Symbol → Read (Option A)
maybe_at meaning [] = Ok (None, [])
maybe_at meaning (t ∷ rest) = maybe_as t rest (meaning t)

abbrev pub maybe_mark_at : Mark → List Symbol → Read (Option Span)
maybe_mark_at asked input = maybe_at (meanings.mark asked) input

-- an identifier, if there is a `:`
abbrev pub label_after : Option Span → List Symbol → Read (Option Span)
label_after None input = Ok (None, input)
label_after (Some colon) input = identifier_at input >>= λ name. Ok (Some name.0, name.1)

abbrev pub label_at : List Symbol → Read (Option Span)
label_at input = maybe_mark_at marks.Colon input >>= λ colon. label_after colon.0 colon.1

-- what stands after the name of an operation, as far as its head goes
abbrev pub head_after_at : Span → Mark → List Symbol → Read HeadText
head_after_at name asked input = do
  marked ← maybe_mark_at asked input
  label ← label_at marked.1
  Ok (record { name = name; marked = marked.0; label = label.0 }, label.1)

-- the mark that closes a C part
abbrev pub closing_at : Mark → List Symbol → Read Span
closing_at asked input = meant_at (meanings.mark asked) CSyntax input

abbrev pub word_at : Word → List Symbol → Read Span
word_at asked input = meant_at (meanings.word asked) Syntax input
