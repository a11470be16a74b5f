use Rattle.std.proofs.Common.{◌≡◌, true, false, ◌∙◌, sym, take}
use Rattle.gim_text.proofs.FrontsAndRests.{map_step}
use Rattle.gim_text.specs.declared.tree.ArgText.{ArgText}
use Rattle.gim_shape.specs.Blocks.{named_at}
use Rattle.gim_shape.specs.Tables.{has_text}
use Rattle.gim_shape.specs.Phis.{named_by_args}
use Rattle.gim_shape.proofs.TextTables.{among_more}
use Rattle.gim_shape.proofs.DistinctTexts.{distinct_more, not_distinct_at, not_false, not_true}
use Rattle.gim_shape.proofs.phis.distinct_numbers.Goals as goal

pub returns-then-not-branch : goal.returns-then-not-branch
returns-then-not-branch c =
    let number = c.named_at.result.now in
    let there : has_text c.loop-arg.set number ≡ true =
    not_false (has_text c.loop-arg.set number) (sym c.in_ok-insert.ensures.added ∙ c.if-not-branch.true) in
    not_distinct_at (λ (arg : ArgText). named_at c.args.source.now arg.from) c.args.args.now c.loop-arg.arg-index
    c.arg-item.result c.loop-arg-test.true c.arg-item.is
    (rw (← c.named_at.ensures) (sym (c.loop-arg.invariant.known number) ∙ there))

pub loop-arg-preserved : goal.loop-arg-preserved
loop-arg-preserved c =
    let source = c.args.source.now in
    let number = c.named_at.result.now in
    let before = named_by_args source (take c.loop-arg.arg-index c.args.args.now) in
    let step =
    map_step (λ (arg : ArgText). named_at source arg.from) c.args.args.now c.loop-arg.arg-index c.arg-item.result
    c.loop-arg-test.true c.arg-item.is in
    let new : has_text c.loop-arg.set number ≡ false =
    not_true (has_text c.loop-arg.set number) (sym c.in_ok-insert.ensures.added ∙ c.if-not-branch.false) in
    record {
      distinct = rw (step, ← c.named_at.ensures)
          (distinct_more before number c.loop-arg.invariant.distinct (sym (c.loop-arg.invariant.known number) ∙ new));
      known = λ q. rw (step, ← c.named_at.ensures)
          (among_more before number q (has_text c.loop-arg.set q) _
          (c.in_ok-insert.ensures.updates.0 (record { ref_ptr = (0, 0); now = q })) (c.loop-arg.invariant.known q));
    }
