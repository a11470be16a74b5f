use Rattle.std.proofs.Common.{◌≡◌, ◌++◌, take}
use Rattle.std.specs.List.{flat_map}
use Rattle.gim_text.specs.Occurrences.{occurrences_of_argument}
use Rattle.gim_text.proofs.occurrence.push_arguments.Given as goal

abbrev pub invariant-loop-arg : goal.invariant-loop-arg
invariant-loop-arg l = l.out ≡ l.initial.out ++ flat_map occurrences_of_argument (take l.arg-index l.args)
