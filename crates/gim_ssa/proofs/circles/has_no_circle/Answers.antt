use Rattle.gim_ssa.specs.Circles.{number_of}
use Rattle.gim_ssa.proofs.circles.has_no_circle.Goals as goal

pub returns : goal.returns
returns c = λ yes. (number_of c.deref-2.result.now, c.rise.ensures yes)
