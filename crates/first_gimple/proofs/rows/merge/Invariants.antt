use Rattle.std.proofs.Common.{◌≡◌, drop}
use Rattle.first_gimple.specs.Tests.{merged}
use Rattle.first_gimple.proofs.Merging.{behind}
use Rattle.first_gimple.proofs.rows.merge.Given as goal

abbrev pub invariant-loop-at : goal.invariant-loop-at
invariant-loop-at l = behind l.names (merged (drop l.at l.rows)) ≡ merged l.rows
