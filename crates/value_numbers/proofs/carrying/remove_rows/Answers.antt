use Rattle.std.proofs.Common.{arith, sym, ◌∙◌}
use Rattle.gim_changes.proofs.LoopLemmas.{filtered_start, filtered_fails, filtered_passes}
use Rattle.value_numbers.proofs.carrying.remove_rows.Goals as goal

pub loop-i-init : goal.loop-i-init
loop-i-init c = filtered_start _ c.len-i.ensures

pub loop-i-preserved-then-not-is_left : goal.loop-i-preserved-then-not-is_left
loop-i-preserved-then-not-is_left c =
    filtered_fails c.loop-i.invariant _ (omega arith) _ c.at.ensures.item (sym c.is_left.ensures ∙ c.if-not-is_left.true) c.remove_row.ensures

pub loop-i-preserved : goal.loop-i-preserved
loop-i-preserved c =
    filtered_passes c.loop-i.invariant _ (omega arith) _ c.at.ensures.item (sym c.is_left.ensures ∙ c.if-not-is_left.false)
