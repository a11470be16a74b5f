use Rattle.std.proofs.Common.{◌≡◌, ◌++◌, drop}
use Rattle.commute_expand.specs.Choices.{followed}
use Rattle.commute_expand.proofs.choices.followed.Given as goal

abbrev pub invariant-loop-front : goal.invariant-loop-front
invariant-loop-front l = l.made ++ followed (drop l.front-index l.fronts) l.patterns ≡ followed l.fronts l.patterns
