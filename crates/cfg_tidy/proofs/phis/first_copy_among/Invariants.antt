use Rattle.std.proofs.Common.{◌≡◌, length}
use Rattle.cfg_tidy.specs.Branches.{first_some}
use Rattle.cfg_tidy.specs.Phis.{copy_of}
use Rattle.cfg_tidy.proofs.phis.first_copy_among.Given as goal

abbrev pub invariant-loop-rest : goal.invariant-loop-rest
invariant-loop-rest l = first_some copy_of l.rest ≡ first_some copy_of l.phis

abbrev pub decreases-loop-rest : goal.decreases-loop-rest
decreases-loop-rest l = length l.rest
