use Rattle.gim_changes.specs.Trimming.{tidied}
use Rattle.first_patterns.specs.Matching.{row_at}
use Rattle.first_rewriting.proofs.Ends.{reaches, reached}
use Rattle.first_rewriting.proofs.laws.rewriting_is_by_steps.Goals as goal

pub returns-clause-reaches : goal.returns-clause-reaches
returns-clause-reaches c = λ rows budget f. reaches (row_at rows) budget (tidied f)

pub returns-clause-only : goal.returns-clause-only
returns-clause-only c = λ rows budget f end firings exhausted by. reached (row_at rows) budget (tidied f) end firings exhausted by
