-- By the exact reader of files.
use Rattle.pd_files.proofs.OneOutcome.{some_outcome}
use Rattle.pd_files.proofs.laws.some_file.Goals as goal

pub returns : goal.returns
returns c = some_outcome
