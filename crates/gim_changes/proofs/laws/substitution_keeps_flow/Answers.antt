use Rattle.gim_changes.proofs.FlowKept.{put_in_flow}
use Rattle.gim_changes.proofs.laws.substitution_keeps_flow.Goals as goal

pub returns : goal.returns
returns c = λ f x by. put_in_flow x by f
