use Rattle.cfg_tidy.specs.Removal.{block_stays}
use Rattle.gim_changes.proofs.LoopLemmas.{IsFiltered}
use Rattle.cfg_tidy.proofs.dropping.remove_blocks.Given as goal

abbrev pub invariant-loop-i : goal.invariant-loop-i
invariant-loop-i l = IsFiltered (block_stays l.number) l.i l.initial.blocks l.blocks
