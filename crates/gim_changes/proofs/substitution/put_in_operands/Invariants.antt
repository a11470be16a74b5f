use Rattle.gim_changes.specs.Substitution.{put}
use Rattle.gim_changes.proofs.LoopLemmas.{IsMapped}
use Rattle.gim_changes.proofs.substitution.put_in_operands.Given as goal

abbrev pub invariant-loop-i : goal.invariant-loop-i
invariant-loop-i l = IsMapped (put l.name l.by) l.i l.i-end l.initial.operands l.operands
