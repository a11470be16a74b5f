use Rattle.gim_ssa.specs.Search.{remaining}
use Rattle.gim_ssa.proofs.ReachLemmas.{IsReaching}
use Rattle.gim_ssa.proofs.reached.reach.Given as goal

abbrev pub invariant-loop-place : goal.invariant-loop-place
invariant-loop-place l = IsReaching l.nexts l.first l.search

abbrev pub decreases-loop-place : goal.decreases-loop-place
decreases-loop-place l = remaining l.search
