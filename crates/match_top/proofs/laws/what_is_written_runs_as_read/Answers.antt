use Rattle.match_top.proofs.KeptLemmas.{runs_as_read}
use Rattle.match_top.proofs.laws.what_is_written_runs_as_read.Goals as goal

pub returns : goal.returns
returns c = runs_as_read
