-- What passes keep: valid functions, and every run.
use Rattle.std.proofs.Common.{◌≡◌, ℕ, Option, List, Result, Ok, refl, ap, ◌∙◌}
use Rattle.std.specs.List.{AllByRecursion, AllZip}
use Rattle.gim_ast.specs.Readable.{IsValid}
use Rattle.gim_ast.specs.declared.function.Function.{Function}
use Rattle.gim_changes.specs.Removal.{without}
use Rattle.gim_changes.specs.Substitution.{put_in_all}
use Rattle.gim_changes.specs.Trimming.{trimmed}
use Rattle.gim_meaning.specs.AllRuns.{KeepsAllRuns}
use Rattle.gim_meaning.proofs.AllRunsKept.{all_through, all_kept_itself}
use Rattle.cfg_tidy.specs.declared.change.Change.{Change}
use Rattle.cfg_tidy.specs.declared.change.Tidied.{Tidied}
use Rattle.cfg_tidy.specs.Branches.{branched}
use Rattle.cfg_tidy.specs.Removal.{dropped}
use Rattle.cfg_tidy.specs.SameRuns.{RunAlike}
use Rattle.cfg_tidy.specs.Tidying.{Makes, branch, drop, phi, Becomes, same, then_on, IsTidied}
use Rattle.cfg_tidy.proofs.TidiedIsValid.{tidied_is_valid}
use Rattle.cfg_tidy.proofs.TidiedRuns.{valid_runs_alike_if_ok}
use Rattle.value_numbers.specs.Merges.{merged, done, merge}
use Rattle.value_numbers.specs.Merges as numbering
use Rattle.value_numbers.proofs.MergedFunctions.{merged_is_valid, merge_keeps_all_runs}
use Rattle.match_top.specs.Answer.{Answer, status_of, out_of}
use Rattle.match_top.specs.Given.{AnswersHeld}
use Rattle.match_top.specs.Needs.{functions_named}
use Rattle.match_top.specs.Passes.{AllBecome, no_function, one_more, Passes}
use Rattle.match_top.specs.Passes as passes
use Rattle.match_top.specs.RunsAsRead.{RunsAsRead}
use Rattle.match_top.specs.declared.passes.Pass.{Pass}
use Rattle.match_top.specs.declared.passes.Pass.TheVariants.{Tidying, Numbering}
use Rattle.match_top.specs.declared.status.Status.TheVariants.{Done}
use Rattle.match_top.proofs.OneAnswer.{worked_on}

-- ---- tidying

params_made : (f g : Function) (a : Change) → Makes f a g → g.params ≡ f.params
unfolding branched dropped without put_in_all
params_made f _ _ (branch n to end is) = refl
params_made f _ _ (drop n none first) = refl
params_made f _ _ (phi x by none reached copy) = refl

params_kept : (f g : Function) (changes : List Change) → Becomes f changes g → g.params ≡ f.params
params_kept _ _ _ (same f) = refl
params_kept _ _ _ (then_on f g h first changes makes more) = params_kept g h changes more ∙ params_made f g first makes

params_trimmed : (f : Function) → (trimmed f).params ≡ f.params
unfolding trimmed
params_trimmed f = refl

tidied_keeps : (f g : Function) (changes : List Change) → IsValid f → IsTidied f changes g → KeepsAllRuns f g
tidied_keeps f g changes valid tidied =
    let answer : Result Tidied ℕ = Ok (record { function = g; changes = changes }) in
    let alike : RunAlike f g = valid_runs_alike_if_ok f answer tidied valid in
    record {
      params = ap (λ (h : Function). h.params) tidied.trimmed ∙ params_trimmed tidied.last ∙ params_kept f tidied.last changes tidied.becomes;
      runs = λ args words fuel. alike args fuel;
    }

-- ---- numbering

numbered_keeps : (f g : Function) (merges : List (ℕ × ℕ)) → IsValid f → numbering.Numbers f merges g → IsValid g × KeepsAllRuns f g
numbered_keeps _ _ _ valid (done f none) = (valid, all_kept_itself f)
numbered_keeps _ _ _ valid (merge f g x y merges first rest) =
    let after = numbered_keeps (merged x y f) g merges (merged_is_valid f valid x y first) rest in
    (after.0, all_through f (merged x y f) g (merge_keeps_all_runs f valid x y first) after.1)

-- ---- each pass

one_kept : (pass : Pass) (f g : Function) (lines : List ℕ) → IsValid f → passes.Becomes pass f g lines → IsValid g × KeepsAllRuns f g
one_kept Tidying f g lines valid made = (tidied_is_valid f g made.changes valid made.tidied, tidied_keeps f g made.changes valid made.tidied)
one_kept Numbering f g lines valid made = numbered_keeps f g made.merges valid made.numbered

pub all_kept : (pass : Pass) (fs gs : List Function) (report : List ℕ) → AllByRecursion IsValid fs → AllBecome pass fs gs report → AllByRecursion IsValid gs × AllZip KeepsAllRuns fs gs
all_kept pass _ _ _ valid no_function = (tt, tt)
all_kept pass _ _ _ valid (one_more f g lines fs gs more here rest) =
    let first = one_kept pass f g lines valid.0 here in
    let others = all_kept pass fs gs more valid.1 rest in ((first.0, others.0), (first.1, others.1))

pub runs_as_read : (held : List ℕ → Option (List ℕ)) (pass : Pass) (name : List ℕ) (a : Answer) → AnswersHeld (functions_named name) (Passes pass) held a → status_of a ≡ Done
    → RunsAsRead held name (out_of a)
runs_as_read held pass name a answers is_done =
    let on = worked_on held name (Passes pass) answers.given a answers.give answers.answers is_done in
    let kept = all_kept pass on.functions on.is_right.functions on.is_right.report on.accepted.valid on.is_right.become in
    record {
      source = on.source;
      read = on.functions;
      written = on.is_right.functions;
      there = on.there;
      accepted = on.accepted;
      printed = ap out_of on.is_right.answered;
      valid = kept.0;
      runs = kept.1;
    }
