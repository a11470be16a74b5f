use Rattle.std.proofs.Common.{ap, ◌∙◌}
use Rattle.std.proofs.lemmas.Result.{IfOk-weaker}
use Rattle.pattern_uses.specs.Captures.{capture_of}
use Rattle.pred_inline.specs.Filled.{case_filled}
use Rattle.pred_inline.proofs.Placing.{case_step}
use Rattle.pred_inline.proofs.one_use.case_placed.Goals as goal

pub returns : goal.returns
returns c =
    let new_is = c.in_ok-new.ensures ∙ ap (case_filled c.args.by.now c.args.case.now) c.as_slice.ensures in
    let inner_is = c.in_ok-inner.ensures ∙ ap capture_of c.get.ensures in
    IfOk-weaker c.placed_with.result _ _ (λ made h. h ∙ case_step c.args.label.now c.args.by.now c.args.case.now c.args.cap c.args.row c.in_ok-new.new c.in_ok-tail.tail c.in_ok-inner.inner new_is c.in_ok-tail.ensures inner_is) c.placed_with.ensures
