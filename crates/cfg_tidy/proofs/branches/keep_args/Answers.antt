use Rattle.std.proofs.Common.{arith}
use Rattle.gim_changes.proofs.LoopLemmas.{filtered_start, filtered_fails, filtered_passes, other_passes, same_fails}
use Rattle.cfg_tidy.proofs.branches.keep_args.Goals as goal

pub loop-i-init : goal.loop-i-init
loop-i-init c = filtered_start _ c.len-i.ensures

pub loop-i-preserved-then-at-from : goal.loop-i-preserved-then-at-from
loop-i-preserved-then-at-from c =
    filtered_fails c.loop-i.invariant _ (omega arith) _ c.at.ensures.item (same_fails _ _ c.if-at-from.true) c.remove_arg.ensures

pub loop-i-preserved : goal.loop-i-preserved
loop-i-preserved c =
    filtered_passes c.loop-i.invariant _ (omega arith) _ c.at.ensures.item (other_passes _ _ c.if-at-from.false)
