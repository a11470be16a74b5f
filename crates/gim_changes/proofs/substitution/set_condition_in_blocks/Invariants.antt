use Rattle.gim_changes.specs.Substitution.{with_condition_in_block}
use Rattle.gim_changes.proofs.LoopLemmas.{IsMapped}
use Rattle.gim_changes.proofs.substitution.set_condition_in_blocks.Given as goal

abbrev pub invariant-loop-i : goal.invariant-loop-i
invariant-loop-i l = IsMapped (with_condition_in_block l.number l.code l.left l.right) l.i l.i-end l.initial.blocks l.blocks
