use Rattle.std.proofs.Common.{◌≡◌, ◌++◌, take, map}
use Rattle.gim_text.specs.Occurrences.{occurrence_of_parameter}
use Rattle.gim_text.proofs.occurrence.push_parameters.Given as goal

abbrev pub invariant-loop-decl : goal.invariant-loop-decl
invariant-loop-decl l = l.out ≡ l.initial.out ++ map occurrence_of_parameter (take l.decl-index l.parameters)
