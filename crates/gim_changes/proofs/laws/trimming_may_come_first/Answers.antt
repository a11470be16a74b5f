use Rattle.gim_changes.proofs.TrimmedFirst.{tidied_trimmed}
use Rattle.gim_changes.proofs.laws.trimming_may_come_first.Goals as goal

pub returns : goal.returns
returns c = tidied_trimmed
