use Rattle.ring_forms.proofs.DepthLaw.{depth_decides_nothing}
use Rattle.ring_forms.proofs.laws.depth_decides_nothing.Goals as goal

pub returns : goal.returns
returns c = depth_decides_nothing
