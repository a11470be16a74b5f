use Rattle.std.proofs.Common.{◌≡◌, map, drop}
use Rattle.commute_expand.specs.Choices.{choices, choices_behind}
use Rattle.commute_expand.specs.Orders.{orders}
use Rattle.commute_expand.proofs.orders.+orders.Given as goal

abbrev pub invariant-choices-loop-pattern : goal.invariant-choices-loop-pattern
invariant-choices-loop-pattern l = choices_behind l.made (map orders (drop l.pattern-index l.patterns)) ≡ choices (map orders l.patterns)
