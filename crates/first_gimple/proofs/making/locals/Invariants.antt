use Rattle.std.proofs.Common.{◌≡◌, map, take}
use Rattle.first_gimple.specs.Meaning.{local_decl}
use Rattle.first_gimple.proofs.making.locals.Given as goal

abbrev pub invariant-loop-version : goal.invariant-loop-version
invariant-loop-version l = l.locals ≡ map local_decl (take l.version-index l.versions)
