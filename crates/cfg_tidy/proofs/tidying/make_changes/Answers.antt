use Rattle.std.proofs.Common.{ℕ, Option, subst, arith}
use Rattle.cfg_tidy.specs.declared.change.Change.TheVariants as change
use Rattle.cfg_tidy.specs.Rounds.{Settles, TakesPhi}
use Rattle.cfg_tidy.proofs.Sizes.{smaller}
use Rattle.cfg_tidy.proofs.Turns.{settled_after, from_start, not_larger, round_on}
use Rattle.cfg_tidy.proofs.tidying.make_changes.Goals as goal

pub loop-name-init : goal.loop-name-init
loop-name-init c =
    let done = settled_after c.args.function c.new-changes.result c.make_branches.new.function c.make_branches.new.changes c.drop_unreached.new.function c.drop_unreached.new.changes
    c.in_ok-make_branches.ensures c.in_ok-drop_unreached.ensures in
    record {
      becomes = from_start c.args.function c.new-changes.result c.drop_unreached.new.function c.drop_unreached.new.changes c.new-changes.ensures done.made;
      settled = done.settled;
    }

pub loop-name-smaller : goal.loop-name-smaller
loop-name-smaller c =
    let told = subst (λ (o : Option ℕ). TakesPhi c.loop-name.function o c.take_phi.new.function) c.in-Some.is c.take_phi.ensures in
    let settles : Settles c.take_phi.new.function c.push.new.self c.settle.new.function c.settle.new.changes = c.in_ok-settle.ensures in
    let less = smaller c.loop-name.function c.take_phi.new.function (change.Phi c.in-Some.name) told.0 in
    let rest = not_larger c.take_phi.new.function c.settle.new.function settles.made.more settles.made.becomes in
    omega (arith, less, rest)

pub loop-name-preserved : goal.loop-name-preserved
loop-name-preserved c =
    let told = subst (λ (o : Option ℕ). TakesPhi c.loop-name.function o c.take_phi.new.function) c.in-Some.is c.take_phi.ensures in
    let settles : Settles c.take_phi.new.function c.push.new.self c.settle.new.function c.settle.new.changes = c.in_ok-settle.ensures in
    record {
      becomes = round_on c.args.function c.loop-name.function c.take_phi.new.function c.settle.new.function c.loop-name.changes c.push.new.self c.settle.new.changes (change.Phi c.in-Some.name)
          c.loop-name.invariant.becomes told.0 c.in_ok-push.ensures.ok settles;
      settled = settles.settled;
    }
