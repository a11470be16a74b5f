use Rattle.std.proofs.Common.{◌≡◌, length}
use Rattle.cfg_tidy.specs.Phis.{first_copy}
use Rattle.cfg_tidy.proofs.phis.first_copy.Given as goal

abbrev pub invariant-loop-rest : goal.invariant-loop-rest
invariant-loop-rest l = first_copy l.rest ≡ first_copy l.blocks

abbrev pub decreases-loop-rest : goal.decreases-loop-rest
decreases-loop-rest l = length l.rest
