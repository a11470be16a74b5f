use Rattle.std.proofs.Common.{◌≡◌, ◌++◌, drop}
use Rattle.commute_expand.specs.Choices.{one_followed}
use Rattle.commute_expand.proofs.choices.one_followed.Given as goal

abbrev pub invariant-loop-pattern : goal.invariant-loop-pattern
invariant-loop-pattern l =
    l.made ++ one_followed l.front (drop l.pattern-index l.patterns) ≡ one_followed l.front l.patterns
