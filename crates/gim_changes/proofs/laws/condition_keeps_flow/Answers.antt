use Rattle.gim_changes.proofs.FlowKept.{condition_in_flow}
use Rattle.gim_changes.proofs.laws.condition_keeps_flow.Goals as goal

pub returns : goal.returns
returns c = λ f n code a b. condition_in_flow n code a b f
