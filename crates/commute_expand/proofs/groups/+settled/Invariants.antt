use Rattle.std.proofs.Common.{◌≡◌, map, take}
use Rattle.commute_expand.specs.Groups.{settled}
use Rattle.commute_expand.proofs.groups.+settled.Given as goal

abbrev pub invariant-all_settled-loop-pattern : goal.invariant-all_settled-loop-pattern
invariant-all_settled-loop-pattern l = l.made ≡ map (settled l.group l.present) (take l.pattern-index l.patterns)
