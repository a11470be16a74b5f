use Rattle.std.proofs.Common.{◌≡◌, map, take}
use Rattle.first_gimple.specs.Meaning.{param_decl}
use Rattle.first_gimple.proofs.making.params.Given as goal

abbrev pub invariant-loop-name : goal.invariant-loop-name
invariant-loop-name l = l.params ≡ map param_decl (take l.name-index l.names)
