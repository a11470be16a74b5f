-- What the stage of syntax answers, from what its reader gives.
use Rattle.std.proofs.Common.{◌≡◌, List, [], ◌∷◌, Result, Ok, Err, refl, sym, subst, ◌∙◌}
use Rattle.std.specs.Prelude.{IfOk, IfErr}
use Rattle.grammar.specs.Spelling.{Spelling}
use Rattle.grammar.specs.Reading.{Answer}
use Rattle.grammar.specs.Exact.{IsExact}
use Rattle.grammar.specs.Gives.{GivesInMemory}
use Rattle.grammar.specs.Whole.{IsFirstFault, IsReading, whole_of}
use Rattle.grammar.specs.declared.stop.Stop.{Stop}
use Rattle.grammar.specs.declared.stop.Stop.TheVariants as stops
use Rattle.grammar.proofs.WholeInput.{whole}
use Rattle.pm_ops.specs.declared.fault.PatternFault.{PatternFault}
use Rattle.pm_ops.specs.declared.fault.PatternKind.{PatternKind}
use Rattle.pm_ops.specs.declared.fault.PatternKind.TheVariants.{CSyntax}
use Rattle.pd_text.specs.declared.symbol.Symbol.{Symbol}
use Rattle.cond_subset.specs.Syntax.{syntax_fault, IsRefused, ReadsOrMemory}
use Rattle.cond_subset.specs.WholeReaders.{InSource}

refused_here : {A : Type 0} (N : Spelling Symbol A) (symbols rest : List Symbol) → IsFirstFault N symbols rest → IsRefused N symbols (syntax_fault symbols rest) CSyntax
refused_here N symbols rest first = record { rest = rest; first = first; is = refl }

refused_at : {A : Type 0} (N : Spelling Symbol A) (symbols rest : List Symbol) → IsFirstFault N symbols rest → IsRefused N symbols (syntax_fault symbols rest) (syntax_fault symbols rest).kind
refused_at N symbols [] first = refused_here N symbols [] first
refused_at N symbols (t ∷ rest) first = refused_here N symbols (t ∷ rest) first

ok_no_err : {A E : Type 0} (x : A) (e : E) → ◌≡◌ {A = Result A E} (Ok x) (Err e) → ⊥
ok_no_err x e same = cc

module _ {X A : Type 0} (N : Spelling Symbol A) (more : Symbol → Type 0) (seen : X → A) (symbols : List Symbol) (answer : Answer Symbol PatternKind A) (exact : IsExact N more symbols answer)
    (read : Result X (Stop Symbol PatternKind)) (given : GivesInMemory seen read (whole_of CSyntax answer)) (result : Result X PatternFault) (here : InSource symbols read result) where
  reading : IsReading N symbols (whole_of CSyntax answer)
  reading = whole N more CSyntax symbols answer exact

  pub found_in : IfOk result (λ x. N (seen x) symbols)
  found_in = by_read read given here
    where
      by_read : (read : Result X (Stop Symbol PatternKind)) → GivesInMemory seen read (whole_of CSyntax answer) → InSource symbols read result → IfOk result (λ x. N (seen x) symbols)
      by_read (Ok x) given here = subst (λ r. IfOk r (λ y. N (seen y) symbols)) (sym here) (reading.found (seen x) given)
      by_read (Err stop) given here = subst (λ r. IfOk r (λ y. N (seen y) symbols)) (sym here) tt

  pub only_in : (value : A) → N value symbols → ReadsOrMemory seen result value
  only_in value spelled = by_read read given here
    where
      by_read : (read : Result X (Stop Symbol PatternKind)) → GivesInMemory seen read (whole_of CSyntax answer) → InSource symbols read result → ReadsOrMemory seen result value
      by_read (Ok x) given here =
          let one : ◌≡◌ {A = Result A (PatternKind × List Symbol)} (Ok (seen x)) (Ok value) = sym given ∙ reading.only value spelled in
          subst (λ r. ReadsOrMemory seen r value) (sym here) (cc)
      by_read (Err stops.Memory) given here = subst (λ r. ReadsOrMemory seen r value) (sym here) refl
      by_read (Err (stops.Fault fault)) given here = absurd (ok_no_err value (fault.kind, fault.rest.now) (sym (reading.only value spelled) ∙ given))

  pub fault_in : IfErr result (λ fault. IsRefused N symbols fault fault.kind)
  fault_in = by_read read given here
    where
      by_read : (read : Result X (Stop Symbol PatternKind)) → GivesInMemory seen read (whole_of CSyntax answer) → InSource symbols read result
          → IfErr result (λ fault. IsRefused N symbols fault fault.kind)
      by_read (Ok x) given here = subst (λ r. IfErr r (λ fault. IsRefused N symbols fault fault.kind)) (sym here) tt
      by_read (Err stops.Memory) given here = subst (λ r. IfErr r (λ fault. IsRefused N symbols fault fault.kind)) (sym here) refl
      by_read (Err (stops.Fault fault)) given here =
          subst (λ r. IfErr r (λ f. IsRefused N symbols f f.kind)) (sym here) (refused_at N symbols fault.rest.now (reading.fault (fault.kind, fault.rest.now) given))
