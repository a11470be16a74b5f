use Rattle.std.proofs.Common.{◌≡◌, length}
use Rattle.cfg_tidy.specs.Branches.{first_branch}
use Rattle.cfg_tidy.proofs.branches.first_branch.Given as goal

abbrev pub invariant-loop-rest : goal.invariant-loop-rest
invariant-loop-rest l = first_branch l.rest ≡ first_branch l.blocks

abbrev pub decreases-loop-rest : goal.decreases-loop-rest
decreases-loop-rest l = length l.rest
