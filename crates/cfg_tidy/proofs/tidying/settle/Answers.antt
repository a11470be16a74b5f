use Rattle.std.proofs.Common.{sym, ◌∙◌}
use Rattle.cfg_tidy.proofs.Turns.{settled_without, settles_if_ok}
use Rattle.cfg_tidy.proofs.tidying.settle.Goals as goal

pub returns-then-len-before : goal.returns-then-len-before
returns-then-len-before c =
    settled_without c.args.function.now c.args.changes.now c.make_branches.new.function c.make_branches.new.changes c.requires c.in_ok-make_branches.ensures
    (sym c.len.ensures ∙ (c.if-len-before.true ∙ c.len-before.ensures))

pub returns : goal.returns
returns c =
    settles_if_ok c.args.function.now c.args.changes.now c.make_branches.new.function c.make_branches.new.changes c.drop_unreached.new.function c.drop_unreached.new.changes
    c.drop_unreached.result c.in_ok-make_branches.ensures c.drop_unreached.ensures
