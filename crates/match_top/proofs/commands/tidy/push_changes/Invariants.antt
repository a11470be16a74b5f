use Rattle.std.proofs.Common.{◌≡◌, ◌++◌, take}
use Rattle.std.specs.List.{flat_map}
use Rattle.match_top.specs.Tidy.{change_line}
use Rattle.match_top.proofs.commands.tidy.push_changes.Given as goal

abbrev pub invariant-loop-change : goal.invariant-loop-change
invariant-loop-change l = l.out ≡ l.initial.out ++ flat_map (change_line l.function) (take l.change-index l.changes)
