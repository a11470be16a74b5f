use Rattle.std.proofs.Common.{◌<◌, Some, length, set, sym, ap, ◌∙◌, arith}
use Rattle.pm_ops.specs.Names.{Name}
use Rattle.pattern_rows.specs.declared.row.Place.{Place}
use Rattle.tree_matcher.proofs.Rounds.{all_round, asked_round}
use Rattle.tree_matcher.proofs.Slots.{filled_next}
use Rattle.tree_matcher.proofs.scan.captures_at.Goals as goal

pub loop-i-preserved : goal.loop-i-preserved
loop-i-preserved g c =
    let o = g.S.Subject.operand_at c.args.subject.now in
    let holes = c.args.holes.now in
    let i = c.loop-i.i in
    let hole = c.index-holes-i.result in
    let a = c.in_ok-operand.field-0 in
    let within : c.loop-i.i < length c.args.holes.now = omega arith in
    let here = ap (λ (h : Name × Place). o h.1) (sym c.index-holes-i.is) ∙ sym c.in_ok-operand.ensures.answer in
    record {
      slots = ap (λ slots. set slots i (Some a)) c.loop-i.invariant.slots ∙ filled_next (λ (h : Name × Place). o h.1) holes i hole a within c.requires here;
      all = sym (all_round o holes i hole a within c.index-holes-i.is c.in_ok-operand.ensures.answer) ∙ c.loop-i.invariant.all;
      count = asked_round o holes i hole a c.loop-i.steps _ within c.index-holes-i.is c.in_ok-operand.ensures.answer c.in_ok-operand.ensures.counted ∙ c.loop-i.invariant.count;
    }
