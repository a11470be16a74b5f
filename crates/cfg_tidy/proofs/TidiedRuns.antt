-- The runs of a valid function are as before once it is tidied, undefined ones too.
use Rattle.std.proofs.Common.{◌≡◌, ℕ, Some, List, refl, sym, subst, ◌∙◌, Result, Ok, Err}
use Rattle.std.specs.Prelude.{IfOk}
use Rattle.pm_wide.specs.declared.operand.Operand.{Operand}
use Rattle.gim_ast.specs.declared.function.Function.{Function}
use Rattle.gim_ast.specs.Readable.{IsValid}
use Rattle.gim_changes.specs.Trimming.{trimmed}
use Rattle.cfg_tidy.specs.declared.change.Change.{Change}
use Rattle.cfg_tidy.specs.declared.change.Tidied.{Tidied}
use Rattle.cfg_tidy.specs.Branches.{branched}
use Rattle.cfg_tidy.specs.Phis.{first_copy, replaced}
use Rattle.cfg_tidy.specs.Reached.{IsReached}
use Rattle.cfg_tidy.specs.Removal.{dropped}
use Rattle.cfg_tidy.specs.SameRuns.{RunAlike}
use Rattle.cfg_tidy.specs.Tidying.{branch, drop, phi, Becomes, same, then_on, AllReached, IsTidied}
use Rattle.cfg_tidy.proofs.CopyPhis.{copy_runs_alike}
use Rattle.cfg_tidy.proofs.DroppedRuns.{dropping_runs_alike}
use Rattle.cfg_tidy.proofs.RunsThroughChanges.{alike_through, first_branch_runs_alike}
use Rattle.cfg_tidy.proofs.TidiedIsValid.{HasSoundForm, form_of_valid, form_branched, form_dropped, form_replaced, trimmed_first, valid_form}
use Rattle.cfg_tidy.proofs.TrimmedRuns.{trimming_runs_alike}

-- a phi goes, whatever rows stay behind
phi_runs_alike : (f : Function) (x : ℕ) (by : Operand) → first_copy f.blocks ≡ Some (x, by) → AllReached f.blocks f.blocks → HasSoundForm f → RunAlike f (replaced x by f)
unfolding trimmed
phi_runs_alike f x by is reached form args fuel =
    let g = replaced x by f in
    let h = replaced x by (trimmed f) in
    sym (trimming_runs_alike g args fuel)
    ∙ (subst (RunAlike h) (trimmed_first f x by is reached form) (trimming_runs_alike h) args fuel
    ∙ (copy_runs_alike (trimmed f) x by (valid_form f form reached) reached is args fuel
    ∙ trimming_runs_alike f args fuel))

changes_run_alike : (f g : Function) (changes : List Change) → Becomes f changes g → HasSoundForm f → RunAlike f g
unfolding branched dropped
changes_run_alike _ _ _ (same f) form = λ args fuel. refl
changes_run_alike _ _ _ (then_on f _ h _ changes (branch n to end is) more) form =
    alike_through f (branched n end to f) h (first_branch_runs_alike f n to end form.sound.in_order is)
    (changes_run_alike (branched n end to f) h changes more (form_branched f n to end is form))
changes_run_alike _ _ _ (then_on f _ h _ changes (drop n no_branch first) more) form =
    let unreached = subst (λ m. IsReached f.blocks m → ⊥) first.number first.unreached in
    alike_through f (dropped n f) h (dropping_runs_alike f n unreached form.sound.in_order.entry)
    (changes_run_alike (dropped n f) h changes more (form_dropped f n unreached form))
changes_run_alike _ _ _ (then_on f _ h _ changes (phi x by no_branch reached is) more) form =
    alike_through f (replaced x by f) h (phi_runs_alike f x by is reached form)
    (changes_run_alike (replaced x by f) h changes more (form_replaced f x by is reached form))

tidied_runs_alike : (f g : Function) (changes : List Change) → IsValid f → IsTidied f changes g → RunAlike f g
tidied_runs_alike f g changes valid tidied =
    subst (RunAlike f) (sym tidied.trimmed)
    (alike_through f tidied.last (trimmed tidied.last)
    (changes_run_alike f tidied.last changes tidied.becomes (form_of_valid f valid)) (trimming_runs_alike tidied.last))

pub valid_runs_alike_if_ok : {E : Type 0} (f : Function) (result : Result Tidied E) → IfOk result (λ (t : Tidied). IsTidied f t.changes t.function) →
    IfOk result (λ (t : Tidied). IsValid f → RunAlike f t.function)
valid_runs_alike_if_ok f (Ok t) tidied = λ valid. tidied_runs_alike f t.function t.changes valid tidied
valid_runs_alike_if_ok f (Err e) tidied = tt
