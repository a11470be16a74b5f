use Rattle.cfg_tidy.specs.Rounds.{Extends}
use Rattle.cfg_tidy.proofs.Sizes.{size_of}
use Rattle.cfg_tidy.proofs.tidying.make_branches.Given as goal

abbrev pub invariant-loop-number : goal.invariant-loop-number
invariant-loop-number l = Extends l.initial.function l.initial.changes l.function l.changes

abbrev pub decreases-loop-number : goal.decreases-loop-number
decreases-loop-number l = size_of l.function.blocks
