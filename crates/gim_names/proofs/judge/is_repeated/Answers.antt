use Rattle.gim_names.proofs.ShortCircuit.{or_first, or_second}
use Rattle.gim_names.specs.Rules as rules
use Rattle.gim_names.proofs.judge.is_repeated.Goals as goal

pub returns-then-is_declared_again : goal.returns-then-is_declared_again
returns-then-is_declared_again c =
    λ before r. or_first (rules.is_declared_again c.args.source.now before c.args.occurrence.now)
    (rules.is_assigned_again c.args.source.now before c.args.occurrence.now) c.is_declared_again.result
    (c.is_declared_again.ensures before r) c.if-is_declared_again.true

pub returns-else-is_declared_again : goal.returns-else-is_declared_again
returns-else-is_declared_again c =
    λ before r. or_second (rules.is_declared_again c.args.source.now before c.args.occurrence.now)
    (rules.is_assigned_again c.args.source.now before c.args.occurrence.now) c.is_declared_again.result
    c.is_assigned_again.result (c.is_declared_again.ensures before r) c.if-is_declared_again.false
    (c.is_assigned_again.ensures before r)
