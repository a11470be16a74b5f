use Rattle.std.proofs.Common.{ap, ◌∙◌}
use Rattle.std.proofs.lemmas.Result.{IfOk-weaker}
use Rattle.pattern_uses.specs.Uses.{cap_at}
use Rattle.pred_inline.specs.Opened.{pairs_united}
use Rattle.pred_inline.specs.OneUse.{use_capture}
use Rattle.pred_inline.proofs.Placing.{one_step}
use Rattle.pred_inline.proofs.one_use.one_inlined.Goals as goal

pub returns : goal.returns
returns c =
    let one_is = c.in_ok-row-2.ensures ∙ (λ i. pairs_united (c.as_slice.ensures i) (c.as_slice-2.ensures i) c.in_ok-row.row) in
    let cap_is = c.in_ok-cap.ensures ∙ ap (cap_at c.in_ok-own.own) c.get.ensures in
    let chosen_is = c.in_ok-cap-2.ensures ∙ ap (λ rest. use_capture c.in_ok-own.own rest c.in_ok-cap.cap) c.get-2.ensures in
    IfOk-weaker c.use_placed.result _ _ (λ made h. h ∙ one_step c.args.i c.args.case.now c.args.row c.in_ok-row.row c.in_ok-row-2.row c.in_ok-own.own c.in_ok-cap.cap c.in_ok-cap-2.cap c.in_ok-row.ensures one_is c.in_ok-own.ensures cap_is chosen_is) c.use_placed.ensures
