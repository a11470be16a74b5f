use Rattle.std.proofs.Common.{arith}
use Rattle.pattern_uses.proofs.LabelLemmas.{one_more}
use Rattle.pattern_uses.specs.Uses.{labels}
use Rattle.pattern_uses.proofs.use_labels.labels.Goals as goal

pub loop-i-preserved : goal.loop-i-preserved
loop-i-preserved c =
    rw (c.in_ok-push.ensures.ok, c.in_ok-label.ensures) (one_more c.loop-i.made (labels c.args.names.now) c.args.names.now c.loop-i.i (omega (arith, c.loop-i-test.true)) c.loop-i.invariant)
