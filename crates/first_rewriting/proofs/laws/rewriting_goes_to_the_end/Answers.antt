use Rattle.gim_changes.specs.Trimming.{tidied}
use Rattle.first_rewriting.specs.Rewriting.{rewriting_of}
use Rattle.first_patterns.specs.Matching.{row_at}
use Rattle.first_rewriting.proofs.Ends.{reaches, nothing_to_do, more_to_do, no_choice}
use Rattle.first_rewriting.proofs.laws.rewriting_goes_to_the_end.Goals as goal

pub returns-clause-ended : goal.returns-clause-ended
returns-clause-ended c = λ rows budget f s ended among.
    let r = rewriting_of (row_at rows) budget f in
    no_choice (row_at rows) r.function s (nothing_to_do (row_at rows) budget (tidied f) r.function r.firings r.exhausted
    (reaches (row_at rows) budget (tidied f)) ended) among

pub returns-clause-exhausted : goal.returns-clause-exhausted
returns-clause-exhausted c = λ rows budget f exhausted.
    let r = rewriting_of (row_at rows) budget f in
    more_to_do (row_at rows) budget (tidied f) r.function r.firings r.exhausted (reaches (row_at rows) budget (tidied f)) exhausted
