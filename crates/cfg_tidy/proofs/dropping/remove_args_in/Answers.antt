use Rattle.std.proofs.Common.{arith}
use Rattle.gim_changes.proofs.LoopLemmas.{mapped_next, mapped_end}
use Rattle.cfg_tidy.proofs.dropping.remove_args_in.Goals as goal

pub loop-i-preserved : goal.loop-i-preserved
loop-i-preserved c = mapped_next c.loop-i.invariant _ _ c.at_mut.ensures.item c.remove_args_of_block.ensures

pub returns : goal.returns
returns c = mapped_end c.loop-i.invariant (omega arith)
