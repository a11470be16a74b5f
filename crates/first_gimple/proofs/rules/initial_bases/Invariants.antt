use Rattle.std.proofs.Common.{◌≡◌, take}
use Rattle.gim_ast.specs.WellFormed.{initial_bases}
use Rattle.first_gimple.proofs.rules.initial_bases.Given as goal

abbrev pub invariant-loop-row : goal.invariant-loop-row
invariant-loop-row l = l.bases.items ≡ initial_bases (take l.row-index l.names)
