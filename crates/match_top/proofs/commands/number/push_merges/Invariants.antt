use Rattle.std.proofs.Common.{◌≡◌, ◌++◌, take}
use Rattle.std.specs.List.{flat_map}
use Rattle.match_top.specs.Number.{merge_line}
use Rattle.match_top.proofs.commands.number.push_merges.Given as goal

abbrev pub invariant-loop-merge : goal.invariant-loop-merge
invariant-loop-merge l = l.out ≡ l.initial.out ++ flat_map (merge_line l.function) (take l.merge-index l.merges)
