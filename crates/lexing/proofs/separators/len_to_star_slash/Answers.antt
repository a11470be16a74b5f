use Rattle.std.proofs.Common.{sym, ◌∙◌}
use Rattle.lexing.proofs.Comments.{found_here, found_later, found_nowhere}
use Rattle.lexing.proofs.separators.len_to_star_slash.Goals as goal

pub returns-then-starts_with : goal.returns-then-starts_with
returns-then-starts_with c =
    found_here c.args.text.now c.loop-at.at _ (sym (rw (c.split_at.ensures.back) at c.starts_with.ensures.value) ∙ c.if-starts_with.true) c.loop-at.invariant

pub loop-at-preserved : goal.loop-at-preserved
loop-at-preserved c =
    found_later c.args.text.now c.loop-at.at _ c.loop-at-test.true (sym (rw (c.split_at.ensures.back) at c.starts_with.ensures.value) ∙ c.if-starts_with.false) c.loop-at.invariant

pub returns : goal.returns
returns c = found_nowhere c.args.text.now c.loop-at.at _ c.loop-at-test.false c.loop-at.invariant
