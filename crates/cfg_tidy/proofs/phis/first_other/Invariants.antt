use Rattle.std.proofs.Common.{◌≡◌, length}
use Rattle.cfg_tidy.specs.Branches.{first_some}
use Rattle.cfg_tidy.specs.Phis.{other_operand}
use Rattle.cfg_tidy.proofs.phis.first_other.Given as goal

abbrev pub invariant-loop-rest : goal.invariant-loop-rest
invariant-loop-rest l = first_some (other_operand l.name) l.rest ≡ first_some (other_operand l.name) l.args

abbrev pub decreases-loop-rest : goal.decreases-loop-rest
decreases-loop-rest l = length l.rest
