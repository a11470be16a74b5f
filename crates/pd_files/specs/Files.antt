-- What the stage of syntax answers of a whole file.
use Rattle.std.specs.Prelude.{◌≡◌, ℕ, List, [], ◌∷◌, Result, Ok, Err}
use Rattle.grammar.specs.declared.stop.Stop.{Stop}
use Rattle.grammar.specs.declared.stop.Stop.TheVariants as stops
use Rattle.grammar.specs.Whole.{IsFirstFault, whole_of}
use Rattle.pm_ops.specs.Faults.{memory_fault}
use Rattle.pm_ops.specs.declared.fault.PatternFault.{PatternFault}
use Rattle.pm_ops.specs.declared.fault.PatternKind.{PatternKind}
use Rattle.pm_ops.specs.declared.fault.PatternKind.TheVariants.{Memory, Syntax, CSyntax}
use Rattle.pd_text.specs.Meanings.{span_of}
use Rattle.pd_text.specs.declared.symbol.Symbol.{Symbol}
use Rattle.cond_subset.specs.Syntax.{fault_at}
use Rattle.pd_files.specs.Forms.{Form, SpellsFile}
use Rattle.pd_files.specs.FormReaders.{file_at}

-- within a C part, or elsewhere
abbrev pub syntax_kind : PatternKind → PatternKind
syntax_kind CSyntax = CSyntax
syntax_kind kind = Syntax

-- a fault at the first of these symbols, or at the end of the source where there is none
abbrev pub syntax_fault : ℕ → PatternKind → List Symbol → PatternFault
syntax_fault source_len kind [] = record { kind = syntax_kind kind; at = source_len; len = 0 }
syntax_fault source_len kind (t ∷ rest) = fault_at (syntax_kind kind) (span_of t)

-- The fault is that of the first offending symbol, or of the end. Where the reader of C parts met it, it is one of C parts.
pub record IsSyntaxFault (source_len : ℕ) (file : List Symbol) (fault : PatternFault) : Type 0 where
  pub kind : PatternKind
  pub rest : List Symbol
  pub first : IsFirstFault SpellsFile file rest
  pub met : whole_of Syntax (file_at file) ≡ Err (kind, rest)
  pub is : fault ≡ syntax_fault source_len kind rest

-- the same, unless memory ran out
abbrev pub IsRefused : ℕ → List Symbol → PatternFault → PatternKind → Type 0
IsRefused source_len file fault Memory = fault ≡ memory_fault
IsRefused source_len file fault kind = IsSyntaxFault source_len file fault

-- What was read, with its fault as one of the source. It stands between code and the clauses above.
abbrev pub InSource : {X : Type 0} → ℕ → Result X (Stop Symbol PatternKind) → Result X PatternFault → Type 0
InSource source_len (Ok x) result = result ≡ Ok x
InSource source_len (Err stops.Memory) result = result ≡ Err memory_fault
InSource source_len (Err (stops.Fault fault)) result = result ≡ Err (syntax_fault source_len fault.kind fault.rest.now)

-- What a file comes to: its forms, or its first fault of syntax.
abbrev pub Outcome : ℕ → List Symbol → Result (List Form) PatternFault → Type 0
Outcome source_len file (Ok read) = SpellsFile read file
Outcome source_len file (Err fault) = IsSyntaxFault source_len file fault
