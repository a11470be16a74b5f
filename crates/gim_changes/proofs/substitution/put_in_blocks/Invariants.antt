use Rattle.gim_changes.specs.Substitution.{put_in_block}
use Rattle.gim_changes.proofs.LoopLemmas.{IsMapped}
use Rattle.gim_changes.proofs.substitution.put_in_blocks.Given as goal

abbrev pub invariant-loop-i : goal.invariant-loop-i
invariant-loop-i l = IsMapped (put_in_block l.name l.by) l.i l.i-end l.initial.blocks l.blocks
