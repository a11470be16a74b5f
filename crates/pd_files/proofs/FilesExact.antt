-- A file is read exactly, and the stage of syntax answers so.
use Rattle.std.proofs.Common.{◌≡◌, List, [], ◌∷◌, Result, Ok, Err, refl, sym, subst, ◌∙◌}
use Rattle.std.specs.Prelude.{ℕ, IfOk, IfErr}
use Rattle.grammar.specs.Gives.{GivesInMemory}
use Rattle.grammar.specs.Whole.{IsReading, whole_of}
use Rattle.grammar.specs.declared.stop.Stop.{Stop}
use Rattle.grammar.specs.declared.stop.Stop.TheVariants as stops
use Rattle.grammar.proofs.Sequence.{Never}
use Rattle.grammar.proofs.EveryInput.{Reads}
use Rattle.grammar.proofs.Items.{items_read}
use Rattle.grammar.proofs.WholeInput.{whole}
use Rattle.pm_ops.specs.declared.fault.PatternFault.{PatternFault}
use Rattle.pm_ops.specs.declared.fault.PatternKind.{PatternKind}
use Rattle.pm_ops.specs.declared.fault.PatternKind.TheVariants.{Memory, Syntax, CSyntax}
use Rattle.pd_text.specs.declared.symbol.Symbol.{Symbol}
use Rattle.cond_subset.specs.Syntax.{ReadsOrMemory}
use Rattle.pd_files.specs.Forms.{Form, SpellsTop, SpellsFile}
use Rattle.pd_files.specs.FormReaders.{any_symbol, top_at, file_at}
use Rattle.pd_files.specs.Files.{syntax_kind, syntax_fault, IsSyntaxFault, IsRefused, InSource}
use Rattle.pd_files.proofs.FormsExact.{top_reads, top_begun}

-- every symbol: a further form may begin at it, well or wrongly
abbrev pub AnySymbol : Symbol → Type 0
AnySymbol t = Unit {0}

pub file_reads : Reads SpellsFile AnySymbol file_at
file_reads =
    items_read SpellsTop any_symbol top_at Never AnySymbol top_reads (λ f spelled. top_begun f [] spelled) (λ f t w spelled. refl) (λ t e impossible. impossible) (λ t impossible. tt) (λ t e. tt)

pub file_reading : (file : List Symbol) → IsReading SpellsFile file (whole_of Syntax (file_at file))
file_reading file = whole SpellsFile AnySymbol Syntax file (file_at file) (file_reads.exact file)

no_memory : (kind : PatternKind) → syntax_kind kind ≡ Memory → ⊥
no_memory CSyntax e = cc
no_memory kind e = cc

never_memory : (source_len : ℕ) (kind : PatternKind) (rest : List Symbol) → (syntax_fault source_len kind rest).kind ≡ Memory → ⊥
never_memory source_len kind [] e = no_memory kind e
never_memory source_len kind (t ∷ rest) e = no_memory kind e

-- a fault that the reader met is refused
pub is_refused : (source_len : ℕ) (file : List Symbol) (kind : PatternKind) (rest : List Symbol) → whole_of Syntax (file_at file) ≡ Err (kind, rest)
    → IsRefused source_len file (syntax_fault source_len kind rest) (syntax_fault source_len kind rest).kind
is_refused source_len file kind rest met = by_kind (syntax_fault source_len kind rest).kind refl
  where
    here : IsSyntaxFault source_len file (syntax_fault source_len kind rest)
    here = record { kind = kind; rest = rest; first = (file_reading file).fault (kind, rest) met; met = met; is = refl }

    by_kind : (k : PatternKind) → (syntax_fault source_len kind rest).kind ≡ k → IsRefused source_len file (syntax_fault source_len kind rest) k
    by_kind Memory same = absurd (never_memory source_len kind rest same)
    by_kind k same = here

pub ok_no_err : {A E : Type 0} (x : A) (e : E) → ◌≡◌ {A = Result A E} (Ok x) (Err e) → ⊥
ok_no_err x e same = cc

module _ {X : Type 0} (seen : X → List Form) (source_len : ℕ) (file : List Symbol) (read : Result X (Stop Symbol PatternKind)) (given : GivesInMemory seen read (whole_of Syntax (file_at file)))
    (result : Result X PatternFault) (here : InSource source_len read result) where
  pub found_in : IfOk result (λ x. SpellsFile (seen x) file)
  found_in = by_read read given here
    where
      by_read : (read : Result X (Stop Symbol PatternKind)) → GivesInMemory seen read (whole_of Syntax (file_at file)) → InSource source_len read result → IfOk result (λ x. SpellsFile (seen x) file)
      by_read (Ok x) given here = subst (λ r. IfOk r (λ y. SpellsFile (seen y) file)) (sym here) ((file_reading file).found (seen x) given)
      by_read (Err stops.Memory) given here = subst (λ r. IfOk r (λ y. SpellsFile (seen y) file)) (sym here) tt
      by_read (Err (stops.Fault fault)) given here = subst (λ r. IfOk r (λ y. SpellsFile (seen y) file)) (sym here) tt

  pub only_in : (value : List Form) → SpellsFile value file → ReadsOrMemory seen result value
  only_in value spelled = by_read read given here
    where
      by_read : (read : Result X (Stop Symbol PatternKind)) → GivesInMemory seen read (whole_of Syntax (file_at file)) → InSource source_len read result → ReadsOrMemory seen result value
      by_read (Ok x) given here =
          let one : ◌≡◌ {A = Result (List Form) (PatternKind × List Symbol)} (Ok (seen x)) (Ok value) = sym given ∙ (file_reading file).only value spelled in
          subst (λ r. ReadsOrMemory seen r value) (sym here) (cc)
      by_read (Err stops.Memory) given here = subst (λ r. ReadsOrMemory seen r value) (sym here) refl
      by_read (Err (stops.Fault fault)) given here = absurd (ok_no_err value (fault.kind, fault.rest.now) (sym ((file_reading file).only value spelled) ∙ given))

  pub fault_in : IfErr result (λ fault. IsRefused source_len file fault fault.kind)
  fault_in = by_read read given here
    where
      by_read : (read : Result X (Stop Symbol PatternKind)) → GivesInMemory seen read (whole_of Syntax (file_at file)) → InSource source_len read result
          → IfErr result (λ fault. IsRefused source_len file fault fault.kind)
      by_read (Ok x) given here = subst (λ r. IfErr r (λ f. IsRefused source_len file f f.kind)) (sym here) tt
      by_read (Err stops.Memory) given here = subst (λ r. IfErr r (λ f. IsRefused source_len file f f.kind)) (sym here) refl
      by_read (Err (stops.Fault fault)) given here =
          subst (λ r. IfErr r (λ f. IsRefused source_len file f f.kind)) (sym here) (is_refused source_len file fault.kind fault.rest.now given)
