use Rattle.gim_changes.proofs.FlowKept.{rhs_in_flow}
use Rattle.gim_changes.proofs.laws.right_side_keeps_flow.Goals as goal

pub returns : goal.returns
returns c = λ f x rhs. rhs_in_flow x rhs f
