use Rattle.gim_changes.proofs.FlowKept.{trimmed_in_flow}
use Rattle.gim_changes.proofs.laws.trimming_keeps_flow.Goals as goal

pub returns : goal.returns
returns c = trimmed_in_flow
