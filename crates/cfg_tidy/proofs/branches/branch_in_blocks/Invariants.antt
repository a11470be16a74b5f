use Rattle.cfg_tidy.specs.Branches.{branched_in_block}
use Rattle.gim_changes.proofs.LoopLemmas.{IsMapped}
use Rattle.cfg_tidy.proofs.branches.branch_in_blocks.Given as goal

abbrev pub invariant-loop-i : goal.invariant-loop-i
invariant-loop-i l = IsMapped (branched_in_block l.number l.end l.to) l.i l.i-end l.initial.blocks l.blocks
