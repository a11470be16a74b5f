use Rattle.std.proofs.Common.{◌≡◌, map, take}
use Rattle.first_gimple.specs.Meaning.{stmt_of}
use Rattle.first_gimple.proofs.making.stmts.Given as goal

abbrev pub invariant-loop-line : goal.invariant-loop-line
invariant-loop-line l = l.stmts ≡ map stmt_of (take l.line-index l.lines)
