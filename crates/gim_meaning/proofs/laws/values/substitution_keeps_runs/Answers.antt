use Rattle.gim_meaning.proofs.PossibleWords.{always_read_alike_keeps_runs, followed_keeps_runs}
use Rattle.gim_meaning.proofs.laws.values.substitution_keeps_runs.Goals as goal

pub returns-clause-at_uses : goal.returns-clause-at_uses
returns-clause-at_uses c = always_read_alike_keeps_runs

pub returns-clause-by_support : goal.returns-clause-by_support
returns-clause-by_support c = followed_keeps_runs
