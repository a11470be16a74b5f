use Rattle.std.proofs.lemmas.Option.{same_Some}
use Rattle.gim_ast.specs.declared.function.Rhs.TheVariants.{Copy}
use Rattle.gim_ast.specs.Runs.{word_of_operand}
use Rattle.gim_changes.specs.Substitution.{put_in_all}
use Rattle.gim_changes.specs.Trimming.{tidied}
use Rattle.gim_changes.proofs.Copies.{copy_can_go}
use Rattle.gim_meaning.proofs.KeptInARow.{keeps_through}
use Rattle.gim_meaning.proofs.PossibleWords.{followed_keeps_runs}
use Rattle.gim_meaning.proofs.TrimmingRuns.{tidying_keeps_runs}
use Rattle.gim_meaning.proofs.laws.uses.copies_may_go.Goals as goal

pub returns-clause-valid : goal.returns-clause-valid
returns-clause-valid c = copy_can_go

pub returns-clause-runs : goal.returns-clause-runs
returns-clause-runs c = λ f x by valid is.
    keeps_through f (put_in_all x by f) (tidied (put_in_all x by f))
    (followed_keeps_runs f x by valid
    (λ env typed value support.
    same_Some (word_of_operand env by) (env x) (value (Copy by) is)))
    (tidying_keeps_runs (put_in_all x by f))
