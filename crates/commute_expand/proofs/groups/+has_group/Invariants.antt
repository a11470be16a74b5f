use Rattle.std.proofs.Common.{◌≡◌, map, drop}
use Rattle.commute_expand.specs.Groups.{has_group, some_true}
use Rattle.commute_expand.proofs.groups.+has_group.Given as goal

abbrev pub invariant-some_have_group-loop-pattern : goal.invariant-some_have_group-loop-pattern
invariant-some_have_group-loop-pattern l = some_true (map (has_group l.group) (drop l.pattern-index l.patterns)) ≡ some_true (map (has_group l.group) l.patterns)
