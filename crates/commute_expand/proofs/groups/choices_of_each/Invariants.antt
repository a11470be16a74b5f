use Rattle.std.proofs.Common.{◌≡◌, take}
use Rattle.std.specs.List.{flat_map}
use Rattle.commute_expand.specs.Groups.{group_choices}
use Rattle.commute_expand.proofs.groups.choices_of_each.Given as goal

abbrev pub invariant-loop-pattern : goal.invariant-loop-pattern
invariant-loop-pattern l = l.made ≡ flat_map (group_choices l.group) (take l.pattern-index l.patterns)
