use Rattle.cfg_tidy.specs.Search.{remaining}
use Rattle.cfg_tidy.proofs.FoundBlocks.{IsSearching}
use Rattle.cfg_tidy.proofs.reaching.all_reached.Given as goal

abbrev pub invariant-loop-number : goal.invariant-loop-number
invariant-loop-number l = IsSearching l.blocks l.reach

abbrev pub decreases-loop-number : goal.decreases-loop-number
decreases-loop-number l = remaining l.blocks l.reach
