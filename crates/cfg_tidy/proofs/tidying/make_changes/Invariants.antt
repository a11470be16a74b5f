use Rattle.cfg_tidy.specs.Rounds.{IsSettled}
use Rattle.cfg_tidy.specs.Tidying.{Becomes}
use Rattle.cfg_tidy.proofs.Sizes.{size_of}
use Rattle.cfg_tidy.proofs.tidying.make_changes.Given as goal

-- the function was made by the changes so far, and but for phis none is possible
abbrev pub invariant-loop-name : goal.invariant-loop-name
invariant-loop-name l = record {
  becomes : Becomes l.fn.function l.changes l.function;
  settled : IsSettled l.function;
}

abbrev pub decreases-loop-name : goal.decreases-loop-name
decreases-loop-name l = size_of l.function.blocks
