-- Readers of tails on lists of symbols. They stand between code and grammar.
use Rattle.std.specs.Prelude.{ℕ, zero, suc, ◌+◌, List, ◌∷◌, length, Option, Some, None, Ok, Err}
use Rattle.grammar.specs.Reading.{◌>>=◌, meant_at}
use Rattle.pm_ops.specs.declared.fault.PatternKind.TheVariants.{Syntax}
use Rattle.pd_text.specs.declared.symbol.Symbol.{Symbol}
use Rattle.pd_text.specs.declared.symbol.Symbol.TheVariants as symbols
use Rattle.pd_text.specs.declared.symbol.Mark.TheVariants as marks
use Rattle.pd_text.specs.declared.symbol.Word.TheVariants as words
use Rattle.cond_subset.specs.Trees.{Expr}
use Rattle.cond_subset.specs.Declarations.{Decl}
use Rattle.pd_forms.specs.SymbolReaders.{Read, mark_at}
use Rattle.pd_forms.specs.PartReaders.{condition_at, declarations_at}
use Rattle.pd_forms.specs.Tails.{Tail, empty, when, bound}

-- readers of tails
abbrev pub Inner : Type 0
Inner = List Symbol → Read Tail

-- what stands after the `(` of a tail
pub data Opening : Type 0 where
  conditional : Opening
  with_block : Opening

abbrev pub opening : Symbol → Option Opening
opening (symbols.Word words.If at) = Some conditional
opening (symbols.Word words.With at) = Some with_block
opening symbol = None

abbrev pub close_if_at : Expr → Tail → List Symbol → Read Tail
close_if_at c t input = mark_at marks.Close input >>= λ close. Ok (when c t, close.1)

abbrev pub close_with_at : List Decl → Tail → List Symbol → Read Tail
close_with_at ds t input = mark_at marks.Close input >>= λ close. Ok (bound ds t, close.1)

-- what stands after `(if`
abbrev pub conditional_at : Inner → List Symbol → Read Tail
conditional_at inner input = do
  c ← condition_at input
  t ← inner c.1
  close_if_at c.0 t.0 t.1

-- what stands after `(with`
abbrev pub with_at : Inner → List Symbol → Read Tail
with_at inner input = do
  ds ← declarations_at input
  t ← inner ds.1
  close_with_at ds.0 t.0 t.1

abbrev pub after_opening : Inner → Opening → List Symbol → Read Tail
after_opening inner conditional input = conditional_at inner input
after_opening inner with_block input = with_at inner input

abbrev pub tail_at : Inner → List Symbol → Read Tail
tail_at inner (symbols.Mark marks.Open at ∷ rest) = meant_at opening Syntax rest >>= λ o. after_opening inner o.0 o.1
tail_at inner input = Ok (empty, input)

-- the readers that serve below n symbols
abbrev pub tails_at : ℕ → Inner
tails_at zero input = Err (Syntax, input)
tails_at (suc n) input = tail_at (tails_at n) input

-- a whole tail
abbrev pub whole_tail_at : Inner
whole_tail_at input = tails_at (length input + 1) input
