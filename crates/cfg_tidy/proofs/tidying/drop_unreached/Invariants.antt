use Rattle.std.proofs.Common.{◌≡◌, None}
use Rattle.cfg_tidy.specs.Branches.{first_branch}
use Rattle.cfg_tidy.specs.Rounds.{Extends}
use Rattle.cfg_tidy.specs.Search.{TellsReached}
use Rattle.cfg_tidy.proofs.Sizes.{size_of}
use Rattle.cfg_tidy.proofs.tidying.drop_unreached.Given as goal

-- the blocks that are reached are those that were found at the start
abbrev pub invariant-loop-number : goal.invariant-loop-number
invariant-loop-number l = record {
  made : Extends l.initial.function l.initial.changes l.function l.changes;
  branches : first_branch l.function.blocks ≡ None;
  tells : TellsReached l.function.blocks l.reach;
}

abbrev pub decreases-loop-number : goal.decreases-loop-number
decreases-loop-number l = size_of l.function.blocks
