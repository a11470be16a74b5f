use Rattle.std.proofs.Common.{arith, refl, sym, ap, ◌∙◌}
use Rattle.gim_ast.specs.declared.function.Function.{Function}
use Rattle.gim_changes.proofs.LoopLemmas.{filtered_start, filtered_fails, filtered_passes}
use Rattle.gim_changes.proofs.Unused.{rows_stay}
use Rattle.gim_changes.proofs.trimming.trim.Goals as goal

pub loop-i-init : goal.loop-i-init
loop-i-init c = (filtered_start _ c.len-i.ensures, refl)

pub loop-i-preserved-then-not-row_stands : goal.loop-i-preserved-then-not-row_stands
loop-i-preserved-then-not-row_stands c =
    let row = c.at.result.now in
    let stays = rows_stay c.args.function.now c.loop-i.function row c.loop-i.invariant.1 in
    (filtered_fails c.loop-i.invariant.0 _ (omega arith) row c.at.ensures.item (sym stays ∙ (sym c.row_stands.ensures ∙ c.if-not-row_stands.true)) c.remove_row.ensures, ap (λ (f : Function). record f { names = c.remove_row.new.rows }) c.loop-i.invariant.1)

pub loop-i-preserved : goal.loop-i-preserved
loop-i-preserved c =
    let row = c.at.result.now in
    let stays = rows_stay c.args.function.now c.loop-i.function row c.loop-i.invariant.1 in
    (filtered_passes c.loop-i.invariant.0 _ (omega arith) row c.at.ensures.item (sym stays ∙ (sym c.row_stands.ensures ∙ c.if-not-row_stands.false)), c.loop-i.invariant.1)
