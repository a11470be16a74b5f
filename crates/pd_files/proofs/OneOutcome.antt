-- A file comes to one outcome: a list of forms, or a first fault.
use Rattle.std.proofs.Common.{◌≡◌, ℕ, List, Result, Ok, Err, refl, sym, ap, ◌∙◌}
use Rattle.grammar.specs.Whole.{whole_of}
use Rattle.pm_ops.specs.Faults.{memory_fault}
use Rattle.pm_ops.specs.declared.fault.PatternFault.{PatternFault}
use Rattle.pm_ops.specs.declared.fault.PatternKind.{PatternKind}
use Rattle.pm_ops.specs.declared.fault.PatternKind.TheVariants.{Syntax}
use Rattle.pd_text.specs.declared.symbol.Symbol.{Symbol}
use Rattle.pd_files.specs.Forms.{Form}
use Rattle.pd_files.specs.FormReaders.{file_at}
use Rattle.pd_files.specs.Files.{syntax_fault, Outcome}
use Rattle.pd_files.proofs.FilesExact.{file_reading, ok_no_err}

by_answer : (n : ℕ) (file : List Symbol) (answer : Result (List Form) (PatternKind × List Symbol)) → whole_of Syntax (file_at file) ≡ answer
    → (a : Result (List Form) PatternFault) × Outcome n file a
by_answer n file (Ok x) e = (Ok x, (file_reading file).found x e)
by_answer n file (Err f) e = (Err (syntax_fault n f.0 f.1), record { kind = f.0; rest = f.1; first = (file_reading file).fault f e; met = e; is = refl })

pub some_outcome : (n : ℕ) (file : List Symbol) → (a : Result (List Form) PatternFault) × Outcome n file a
some_outcome n file = by_answer n file (whole_of Syntax (file_at file)) refl

-- the fault of an answer
abbrev fault_in : ℕ → Result (List Form) (PatternKind × List Symbol) → PatternFault
fault_in n (Ok x) = memory_fault
fault_in n (Err f) = syntax_fault n f.0 f.1

read_once : {A F : Type 0} (x y : A) → ◌≡◌ {A = Result A F} (Ok x) (Ok y) → x ≡ y
read_once x y e = cc

pub one_outcome : (n : ℕ) (file : List Symbol) (a b : Result (List Form) PatternFault) → Outcome n file a → Outcome n file b → a ≡ b
one_outcome n file (Ok x) (Ok y) p q = ap (λ l. Ok l) (read_once x y (sym ((file_reading file).only x p) ∙ (file_reading file).only y q))
one_outcome n file (Ok x) (Err f) p q = absurd (ok_no_err x (q.kind, q.rest) (sym ((file_reading file).only x p) ∙ q.met))
one_outcome n file (Err f) (Ok y) p q = absurd (ok_no_err y (p.kind, p.rest) (sym ((file_reading file).only y q) ∙ p.met))
one_outcome n file (Err f) (Err g) p q = ap (λ e. Err e) (p.is ∙ ap (fault_in n) (sym p.met ∙ q.met) ∙ sym q.is)
