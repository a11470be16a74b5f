use Rattle.std.proofs.Common.{arith}
use Rattle.gim_changes.proofs.LoopLemmas.{mapped_next_at, mapped_end}
use Rattle.gim_changes.proofs.substitution.put_in_operands.Goals as goal

pub loop-i-preserved : goal.loop-i-preserved
loop-i-preserved c = mapped_next_at c.loop-i.invariant c.index-as_slice-i.result _ (omega arith) c.as_slice.ensures c.index-as_slice-i.is c.replaced-operand.ensures c.set.ensures

pub returns : goal.returns
returns c = mapped_end c.loop-i.invariant (omega arith)
