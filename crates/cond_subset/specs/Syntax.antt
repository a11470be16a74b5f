-- What the stage of syntax answers of a C part that is given by its tokens.
use Rattle.std.specs.Prelude.{◌≡◌, ℕ, ◌-◌, List, [], ◌∷◌, map, length, slice_get, Option, Some, None, Result, Ok, Err, ◌⊎◌}
use Rattle.grammar.specs.Spelling.{Spelling}
use Rattle.grammar.specs.Whole.{IsFirstFault}
use Rattle.pm_ops.specs.Faults.{memory_fault}
use Rattle.pm_ops.specs.declared.fault.PatternFault.{PatternFault}
use Rattle.pm_ops.specs.declared.fault.PatternKind.{PatternKind}
use Rattle.pm_ops.specs.declared.fault.PatternKind.TheVariants.{Memory, CSyntax}
use Rattle.pm_places.specs.declared.span.Span.{Span}
use Rattle.pd_lexer.specs.declared.token.Token.{Token}
use Rattle.pd_text.specs.Meanings.{span_of}
use Rattle.pd_text.specs.Symbols.{symbol_of}
use Rattle.pd_text.specs.declared.symbol.Symbol.{Symbol}
use Rattle.pd_text.specs.declared.symbol.Mark.TheVariants as marks
use Rattle.cond_subset.specs.Trees.{Expr}
use Rattle.cond_subset.specs.Grammar.{◌▸◌, AMark, Spells}

-- what the tokens of a source mean
abbrev pub symbols_of : List ℕ → List Token → List Symbol
symbols_of source tokens = map (symbol_of source) tokens

-- the inside of a result operand in braces: an expression, and ';' or not
abbrev pub SpellsBrace : Expr → List Symbol → Type 0
SpellsBrace e w = Spells e w ⊎ (Spells e ▸ AMark marks.Semicolon) w

-- just after the last of the symbols; the start of the source where there are none
abbrev pub after_last : Option Symbol → ℕ
after_last None = 0
after_last (Some t) = (span_of t).to

abbrev pub end_of : List Symbol → ℕ
end_of symbols = after_last (slice_get symbols (length symbols - 1))

-- a fault at a place
abbrev pub fault_at : PatternKind → Span → PatternFault
fault_at kind at = record { kind = kind; at = at.from; len = at.to - at.from }

-- the fault at the first of `rest`, or just after the last symbol where there is none
abbrev pub syntax_fault : List Symbol → List Symbol → PatternFault
syntax_fault symbols [] = record { kind = CSyntax; at = end_of symbols; len = 0 }
syntax_fault symbols (t ∷ rest) = fault_at CSyntax (span_of t)

-- The fault is that of the first offending symbol, or of the end.
pub record IsSyntaxFault {A : Type 0} (N : Spelling Symbol A) (symbols : List Symbol) (fault : PatternFault) : Type 0 where
  pub rest : List Symbol
  pub first : IsFirstFault N symbols rest
  pub is : fault ≡ syntax_fault symbols rest

-- the same, unless memory ran out
abbrev pub IsRefused : {A : Type 0} → Spelling Symbol A → List Symbol → PatternFault → PatternKind → Type 0
IsRefused N symbols fault Memory = fault ≡ memory_fault
IsRefused N symbols fault kind = IsSyntaxFault N symbols fault

-- this is what was read, seen so, unless memory ran out
abbrev pub ReadsOrMemory : {X A : Type 0} → (X → A) → Result X PatternFault → A → Type 0
ReadsOrMemory seen (Ok x) value = seen x ≡ value
ReadsOrMemory seen (Err fault) value = fault ≡ memory_fault
