use Rattle.gim_names.proofs.ShortCircuit.{or_first, or_second}
use Rattle.gim_names.specs.Rules as rules
use Rattle.gim_names.proofs.judge.is_redefined.Goals as goal

pub returns-then-is_repeated : goal.returns-then-is_repeated
returns-then-is_repeated c =
    λ before r s. or_first (rules.is_repeated c.args.source.now before c.args.occurrence.now)
    (rules.is_contradicted c.args.source.now before c.args.occurrence.now) c.is_repeated.result
    (c.is_repeated.ensures before r) c.if-is_repeated.true

pub returns-else-is_repeated : goal.returns-else-is_repeated
returns-else-is_repeated c =
    λ before r s. or_second (rules.is_repeated c.args.source.now before c.args.occurrence.now)
    (rules.is_contradicted c.args.source.now before c.args.occurrence.now) c.is_repeated.result c.is_contradicted.result
    (c.is_repeated.ensures before r) c.if-is_repeated.false (c.is_contradicted.ensures before r s)
