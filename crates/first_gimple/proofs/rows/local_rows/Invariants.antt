use Rattle.std.proofs.Common.{◌≡◌, map, take}
use Rattle.first_gimple.specs.Meaning.{local_row}
use Rattle.first_gimple.proofs.rows.local_rows.Given as goal

abbrev pub invariant-loop-version : goal.invariant-loop-version
invariant-loop-version l = l.rows.items ≡ map local_row (take l.version-index l.locals)
