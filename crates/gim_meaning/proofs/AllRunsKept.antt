-- Changes that keep every run: an operand that has the name's word at each use, removal of a name
-- at which no run is stuck, trimming.
use Rattle.std.proofs.Common.{◌≡◌, ℕ, false, List, map, refl, sym, ap, ◌∙◌, map-id}
use Rattle.std.specs.List.{AllByRecursion}
use Rattle.pm_wide.specs.Types.{Word}
use Rattle.pm_wide.specs.declared.operand.Operand.{Operand}
use Rattle.gim_ast.specs.declared.function.Function.{Function}
use Rattle.gim_ast.specs.Functions.{is_used}
use Rattle.gim_ast.specs.Readable.{uses_in}
use Rattle.gim_ast.specs.Runs.{name_type, rhs_value}
use Rattle.gim_ast.specs.WellFormed.{IsWellFormed}
use Rattle.gim_changes.specs.Removal.{without}
use Rattle.gim_changes.specs.Substitution.{put_in_all}
use Rattle.gim_changes.specs.Trimming.{trimmed}
use Rattle.gim_meaning.specs.AllRuns.{KeepsAllRuns, IsNeverStuckAt}
use Rattle.gim_meaning.specs.KeptRuns.{AreArgumentWords, KeepsDefinedRuns}
use Rattle.gim_meaning.specs.SameReading.{ReadsAlike, AlwaysReadsAlike}
use Rattle.gim_meaning.proofs.Agreement.{same_value}
use Rattle.gim_meaning.proofs.ExactRuns.{IsStuckAlike, run_as_before, stuck_alike, sticks_at}
use Rattle.gim_meaning.proofs.KeptInARow.{same_arguments}
use Rattle.gim_meaning.proofs.OperandsStand.{stmt_stands}
use Rattle.gim_meaning.proofs.PossibleWords.{reads_alike}
use Rattle.gim_meaning.proofs.Reached.{lies}
use Rattle.gim_meaning.proofs.SubstitutionRuns.{ReadsAlikeOn, put_runs_alike, each_of}
use Rattle.gim_meaning.proofs.TrimmingRuns.{StandsIn, operands_stand, stmt_typed, goes_trimmed}
use Rattle.gim_meaning.proofs.UnchangedItems.{same_step}
use Rattle.gim_meaning.proofs.UnstuckRemoval.{without_runs_alike}

-- ---- an operand for a name

pub substitution_keeps_all_runs : (f : Function) → IsWellFormed f → (x : ℕ) (by : Operand) →
    AllByRecursion (ReadsAlike f x by) (uses_in f) → KeepsAllRuns f (put_in_all x by f)
unfolding put_in_all
substitution_keeps_all_runs f well x by alike = record {
  params = refl;
  runs = λ args words. put_runs_alike f well x by args
      (each_of (ReadsAlike f x by) (ReadsAlikeOn f x by args)
      (λ place reads name. reads name args words) (uses_in f) alike);
}

pub always_read_alike_keeps_all_runs : (f : Function) (x : ℕ) (by : Operand) → IsWellFormed f →
    AllByRecursion (AlwaysReadsAlike f x by) (uses_in f) → KeepsAllRuns f (put_in_all x by f)
always_read_alike_keeps_all_runs f x by well always =
    substitution_keeps_all_runs f well x by (each_of (AlwaysReadsAlike f x by) (ReadsAlike f x by)
    (reads_alike f x by well) (uses_in f) always)

-- ---- removal of a name

pub removal_keeps_all_runs : (x : ℕ) (f : Function) → is_used f x ≡ false → IsNeverStuckAt f x →
    KeepsAllRuns f (without x f)
unfolding without
removal_keeps_all_runs x f none never = record {
  params = refl;
  runs = λ args words. without_runs_alike x f none args (never args words);
}

-- ---- trimming

module _ (f : Function) where
  stuck_trimmed : (args : List Word) →
      IsStuckAlike f (trimmed f) (λ block. block) (StandsIn f) args
  stuck_trimmed args block e d y reached is agree =
      stuck_alike f (trimmed f) (StandsIn f) args block (λ ss. ss)
      (λ stmt ss e d w. same_step f (trimmed f) (StandsIn f) (operands_stand f) (stmt_typed f)
      args block stmt ss ss e d w)
      (λ stmt ss e d reached agree no_value. sticks_at (trimmed f) stmt ss d
      (ap (λ t. rhs_value t d stmt.rhs) (stmt_typed f block stmt ss (lies reached))
      ∙ same_value (StandsIn f) e d agree (name_type f stmt.name) stmt.rhs
      (stmt_stands f (StandsIn f) (operands_stand f) block stmt ss (lies reached))
      ∙ no_value)) y block.stmts e d reached is agree

  pub trimming_keeps_all_runs : KeepsAllRuns f (trimmed f)
  unfolding trimmed
  trimming_keeps_all_runs = record {
    params = refl;
    runs = λ args words. run_as_before f (trimmed f) (λ block. block) (λ block. refl)
        (sym (map-id f.blocks)) (StandsIn f) args (goes_trimmed f args) (stuck_trimmed args);
  }

-- ---- one after the other

pub all_through : (f g h : Function) → KeepsAllRuns f g → KeepsAllRuns g h → KeepsAllRuns f h
all_through f g h first second = record {
  params = second.params ∙ first.params;
  runs = λ args words fuel.
      second.runs args (same_arguments f g args first.params words) fuel
      ∙ first.runs args words fuel;
}

pub all_kept_itself : (f : Function) → KeepsAllRuns f f
all_kept_itself f = record { params = refl; runs = λ args words fuel. refl }

pub keeps_defined : (f g : Function) → KeepsAllRuns f g → KeepsDefinedRuns f g
keeps_defined f g all =
    record { params = all.params; runs = λ args words fuel defined. all.runs args words fuel }
