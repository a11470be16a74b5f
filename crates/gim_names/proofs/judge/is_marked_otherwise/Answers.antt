use Rattle.gim_names.proofs.ShortCircuit.{or_first, or_second}
use Rattle.gim_names.specs.Rules as rules
use Rattle.gim_names.proofs.judge.is_marked_otherwise.Goals as goal

pub returns-then-has_other_mark : goal.returns-then-has_other_mark
returns-then-has_other_mark c =
    λ before r s. or_first (rules.has_other_mark c.args.source.now before c.args.occurrence.now)
    (rules.has_other_default c.args.source.now before c.args.occurrence.now) c.has_other_mark.result
    (c.has_other_mark.ensures before r) c.if-has_other_mark.true

pub returns-else-has_other_mark : goal.returns-else-has_other_mark
returns-else-has_other_mark c =
    λ before r s. or_second (rules.has_other_mark c.args.source.now before c.args.occurrence.now)
    (rules.has_other_default c.args.source.now before c.args.occurrence.now) c.has_other_mark.result
    c.has_other_default.result (c.has_other_mark.ensures before r) c.if-has_other_mark.false
    (c.has_other_default.ensures before r s)
