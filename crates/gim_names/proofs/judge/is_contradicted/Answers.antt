use Rattle.gim_names.proofs.ShortCircuit.{or_first, or_second}
use Rattle.gim_names.specs.Rules as rules
use Rattle.gim_names.proofs.judge.is_contradicted.Goals as goal

pub returns-then-has_other_base : goal.returns-then-has_other_base
returns-then-has_other_base c =
    λ before r s. or_first (rules.has_other_base c.args.source.now before c.args.occurrence.now)
    (rules.is_marked_otherwise c.args.source.now before c.args.occurrence.now) c.has_other_base.result
    (c.has_other_base.ensures before r s) c.if-has_other_base.true

pub returns-else-has_other_base : goal.returns-else-has_other_base
returns-else-has_other_base c =
    λ before r s. or_second (rules.has_other_base c.args.source.now before c.args.occurrence.now)
    (rules.is_marked_otherwise c.args.source.now before c.args.occurrence.now) c.has_other_base.result
    c.is_marked_otherwise.result (c.has_other_base.ensures before r s) c.if-has_other_base.false
    (c.is_marked_otherwise.ensures before r s)
