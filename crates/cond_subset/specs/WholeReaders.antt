-- Readers of whole C parts on lists of symbols. They stand between code and grammar: the contracts above rest on the
-- grammar and the faults alone.
use Rattle.std.specs.Prelude.{◌≡◌, List, ◌∷◌, Result, Ok, Err}
use Rattle.grammar.specs.Reading.{◌>>=◌}
use Rattle.grammar.specs.declared.stop.Stop.{Stop}
use Rattle.grammar.specs.declared.stop.Stop.TheVariants as stops
use Rattle.pm_ops.specs.Faults.{memory_fault}
use Rattle.pm_ops.specs.declared.fault.PatternFault.{PatternFault}
use Rattle.pm_ops.specs.declared.fault.PatternKind.{PatternKind}
use Rattle.pd_text.specs.declared.symbol.Symbol.{Symbol}
use Rattle.pd_text.specs.declared.symbol.Symbol.TheVariants as symbols
use Rattle.pd_text.specs.declared.symbol.Mark.TheVariants as marks
use Rattle.cond_subset.specs.Trees.{Expr}
use Rattle.cond_subset.specs.Readers.{Read}
use Rattle.cond_subset.specs.DeclarationReaders.{expression_at}
use Rattle.cond_subset.specs.Syntax.{syntax_fault}

-- a `;`, where there is one
abbrev pub semicolon_at : Expr → List Symbol → Read Expr
semicolon_at e (symbols.Mark marks.Semicolon at ∷ rest) = Ok (e, rest)
semicolon_at e input = Ok (e, input)

abbrev pub brace_at : List Symbol → Read Expr
brace_at input = expression_at input >>= λ e. semicolon_at e.0 e.1

-- the fault of a reader that stopped
abbrev pub stop_fault : List Symbol → Stop Symbol PatternKind → PatternFault
stop_fault symbols stops.Memory = memory_fault
stop_fault symbols (stops.Fault fault) = syntax_fault symbols fault.rest.now

-- what was read, with its fault as one of the source
abbrev pub InSource : {X : Type 0} → List Symbol → Result X (Stop Symbol PatternKind) → Result X PatternFault → Type 0
InSource symbols (Ok x) result = result ≡ Ok x
InSource symbols (Err stop) result = result ≡ Err (stop_fault symbols stop)
