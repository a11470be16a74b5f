use Rattle.gim_changes.proofs.Members.{slice_member}
use Rattle.gim_changes.proofs.PhiArguments.{argument_comes_before}
use Rattle.gim_changes.proofs.laws.readability.argument_comes_before_its_phi.Goals as goal

pub returns : goal.returns
returns c = λ f place k home phi y valid at mine all stands other apart.
    argument_comes_before f valid home (slice_member f.blocks place home at) phi (slice_member home.phis k phi mine) y all stands other apart
