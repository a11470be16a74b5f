use Rattle.gim_changes.specs.Trimming.{tidied}
use Rattle.first_rewriting.specs.Rewriting.{rewriting_of}
use Rattle.first_patterns.specs.Matching.{row_at}
use Rattle.first_rewriting.proofs.Ends.{reaches, within_budget, budget_spent}
use Rattle.first_rewriting.proofs.laws.firings_keep_the_budget.Goals as goal

pub returns-clause-within : goal.returns-clause-within
returns-clause-within c = λ rows budget f.
    let r = rewriting_of (row_at rows) budget f in
    within_budget (row_at rows) budget (tidied f) r.function r.firings r.exhausted (reaches (row_at rows) budget (tidied f))

pub returns-clause-spent : goal.returns-clause-spent
returns-clause-spent c = λ rows budget f exhausted.
    let r = rewriting_of (row_at rows) budget f in
    budget_spent (row_at rows) budget (tidied f) r.function r.firings r.exhausted (reaches (row_at rows) budget (tidied f)) exhausted
