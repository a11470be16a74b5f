use Rattle.std.proofs.Common.{ap, ◌∙◌}
use Rattle.std.proofs.lemmas.Result.{IfOk-weaker}
use Rattle.pred_inline.specs.Arguments.{naming}
use Rattle.pred_inline.proofs.Placing.{use_step}
use Rattle.pred_inline.proofs.one_use.use_placed.Goals as goal

pub returns : goal.returns
returns c =
    let by_is = c.in_ok-by.ensures ∙ ap (λ args. naming c.args.label.now c.args.case.now args c.in_ok-subject.subject) c.as_slice.ensures in
    IfOk-weaker c.case_placed.result _ _ (λ made h. h ∙ use_step c.args.label.now c.args.case.now c.args.cap c.args.row c.in_ok-by.by c.in_ok-subject.subject c.in_ok-subject.ensures by_is) c.case_placed.ensures
