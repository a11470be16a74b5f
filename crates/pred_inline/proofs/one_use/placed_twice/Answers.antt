use Rattle.std.proofs.Common.{sym, ap, ◌∙◌}
use Rattle.std.proofs.lemmas.Result.{IfOk-weaker}
use Rattle.pattern_uses.specs.Captures.{captured}
use Rattle.pred_inline.specs.Opened.{stay_two}
use Rattle.pred_inline.proofs.Placing.{as_one, as_two}
use Rattle.pred_inline.proofs.one_use.placed_twice.Goals as goal

pub returns-then-stay_two : goal.returns-then-stay_two
returns-then-stay_two c =
    let params = ap (λ ps. stay_two ps c.args.inner.now.name c.args.cap.now.name) c.as_slice.ensures in
    IfOk-weaker c.with_pair.result _ _ (λ made h. h ∙ as_two c.args.label.now c.args.new c.args.tail c.args.cap.now c.args.inner.now c.args.row c.in_ok-row.row (sym params ∙ sym c.stay_two.ensures ∙ c.if-stay_two.true) c.in_ok-row.ensures) c.with_pair.ensures

pub returns : goal.returns
returns c =
    let params = ap (λ ps. stay_two ps c.args.inner.now.name c.args.cap.now.name) c.as_slice.ensures in
    let made_new = c.in_ok-new.ensures ∙ c.in_ok-captured.ensures ∙ ap (captured c.args.cap.now) c.get.ensures in
    IfOk-weaker c.united.result _ _ (λ made h. h ∙ as_one c.args.label.now c.args.new c.in_ok-new.new c.args.tail c.args.cap.now c.args.inner.now c.args.row c.in_ok-row-2.row (sym params ∙ sym c.stay_two.ensures ∙ c.if-stay_two.false) made_new c.in_ok-row-2.ensures) c.united.ensures
