use Rattle.std.proofs.Common.{◌≡◌, ◌++◌, take, map}
use Rattle.gim_text.specs.Occurrences.{occurrence_of_local}
use Rattle.gim_text.proofs.occurrence.push_locals.Given as goal

abbrev pub invariant-loop-decl : goal.invariant-loop-decl
invariant-loop-decl l = l.out ≡ l.initial.out ++ map occurrence_of_local (take l.decl-index l.locals)
