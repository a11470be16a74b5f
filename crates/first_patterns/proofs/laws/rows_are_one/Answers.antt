use Rattle.std.proofs.Common.{sym, ◌∙◌}
use Rattle.first_patterns.proofs.TokenLemmas.{some_is}
use Rattle.first_patterns.proofs.RowsLemmas.{spelled_is_read}
use Rattle.first_patterns.proofs.laws.rows_are_one.Goals as goal

pub returns : goal.returns
returns c = λ source a b one other. some_is a b (sym (spelled_is_read source a one) ∙ spelled_is_read source b other)
