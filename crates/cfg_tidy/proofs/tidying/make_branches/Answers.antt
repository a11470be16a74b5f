use Rattle.std.proofs.Common.{sym, ap, subst, ◌∙◌}
use Rattle.gim_ast.specs.declared.function.Function.{Function}
use Rattle.cfg_tidy.specs.declared.change.Change.TheVariants as change
use Rattle.cfg_tidy.specs.Branches.{first_branch}
use Rattle.cfg_tidy.specs.Tidying.{Makes, branch}
use Rattle.cfg_tidy.proofs.Sizes.{smaller}
use Rattle.cfg_tidy.proofs.Turns.{extends_none, extends_one}
use Rattle.cfg_tidy.proofs.tidying.make_branches.Goals as goal

pub loop-number-init : goal.loop-number-init
loop-number-init c = extends_none c.args.function.now c.args.changes.now

pub loop-number-smaller : goal.loop-number-smaller
loop-number-smaller c =
    smaller c.loop-number.function c.branch-function.new.function (change.Branch c.in-Some.number)
    (subst (λ (g : Function). Makes c.loop-number.function (change.Branch c.in-Some.number) g) (sym c.branch-function.ensures)
    (branch c.in-Some.number c.in-Some.to c.in-Some.end (sym (c.first_branch.ensures ∙ ap first_branch c.as_slice.ensures) ∙ c.in-Some.is)))

pub loop-number-preserved : goal.loop-number-preserved
loop-number-preserved c =
    extends_one c.args.function.now c.args.changes.now c.loop-number.function c.loop-number.changes c.branch-function.new.function c.push.new.self (change.Branch c.in-Some.number)
    c.loop-number.invariant
    (subst (λ (g : Function). Makes c.loop-number.function (change.Branch c.in-Some.number) g) (sym c.branch-function.ensures)
    (branch c.in-Some.number c.in-Some.to c.in-Some.end (sym (c.first_branch.ensures ∙ ap first_branch c.as_slice.ensures) ∙ c.in-Some.is)))
    c.in_ok-push.ensures.ok

pub returns : goal.returns
returns c = record { made = c.loop-number.invariant; branches = sym (c.first_branch.ensures ∙ ap first_branch c.as_slice.ensures) ∙ c.in_default.is }
