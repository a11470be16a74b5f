-- By the exact reader of files.
use Rattle.pd_files.proofs.OneOutcome.{one_outcome}
use Rattle.pd_files.proofs.laws.one_file.Goals as goal

pub returns : goal.returns
returns c = one_outcome
